use Rattle.std.proofs.Common.{◌≡◌, ◌++◌, List, Some}
use Rattle.cops_types.specs.declared.op.OpName.{OpName}
use Rattle.cops_report.specs.Marks.{mark_at}
use Rattle.cops_report.specs.Searches.{Follows, IsWalk}
use Rattle.cops_report.proofs.chains.walk.Given as goal

-- the mark is that of a name from which the walk continues
abbrev pub invariant-loop-mark : goal.invariant-loop-mark
invariant-loop-mark l = (n : OpName) × (mark_at l.marks n ≡ Some l.mark)
    × ((rest : List OpName) → Follows l.marks l.fn.to n rest → IsWalk l.marks l.fn.to l.fn.from (l.names.items ++ rest))

abbrev pub decreases-loop-mark : goal.decreases-loop-mark
decreases-loop-mark l = l.mark.steps
