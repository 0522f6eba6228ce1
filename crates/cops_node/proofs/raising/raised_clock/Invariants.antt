use Rattle.std.proofs.Common.{◌≡◌, ◌≤◌, drop}
use Rattle.cops_node.specs.Node.{raised}
use Rattle.cops_node.proofs.raising.raised_clock.Given as goal

-- the dependencies that are left raise the clock to what all of them raise it to
abbrev pub invariant-loop-dep : goal.invariant-loop-dep
invariant-loop-dep l = record {
  same : raised l.greatest (drop l.dep-index l.deps) ≡ raised l.fn.clock l.deps;
  bound : l.greatest ≤ 281474976710655;
  above : l.fn.clock ≤ l.greatest;
}
