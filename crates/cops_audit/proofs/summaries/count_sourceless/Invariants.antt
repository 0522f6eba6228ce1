use Rattle.std.proofs.Common.{◌≡◌, ◌≤◌, List, length}
use Rattle.cops_types.specs.declared.op.OpName.{OpName}
use Rattle.cops_audit.specs.Names.{names_left}
use Rattle.cops_audit.specs.Summaries.{IsSourceless}
use Rattle.cops_audit.proofs.Collect.{Collected}
use Rattle.cops_audit.proofs.summaries.count_sourceless.Given as goal

abbrev pub invariant-loop-name : goal.invariant-loop-name
invariant-loop-name l = record {
  lists : (gets : List OpName) × Collected (λ n. n) (IsSourceless l.summaries) (names_left l.fn.names) l.yielded (names_left l.name-iterator) gets × (length gets ≡ l.count);
  few : l.count ≤ length l.yielded;
}
