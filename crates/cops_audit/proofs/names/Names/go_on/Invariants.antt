use Rattle.std.proofs.Common.{◌≡◌}
use Rattle.cops_audit.specs.Names.{names_after}
use Rattle.cops_audit.proofs.names.Names.go_on.Given as goal

abbrev pub invariant-loop-client : goal.invariant-loop-client
invariant-loop-client l = record {
  history : l.self.history ≡ l.fn.self.history;
  left : l.self.left ≡ l.fn.self.left;
  same : names_after l.fn.self.history.now.sessions l.client l.self.index ≡ names_after l.fn.self.history.now.sessions l.fn.self.client l.fn.self.index;
}
