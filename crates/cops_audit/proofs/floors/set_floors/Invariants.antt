use Rattle.cops_audit.proofs.Flooring.{FloorsFrom}
use Rattle.cops_audit.proofs.floors.set_floors.Given as goal

abbrev pub invariant-loop-k : goal.invariant-loop-k
invariant-loop-k l = FloorsFrom l.suspects l.floors.items l.k l.floor
