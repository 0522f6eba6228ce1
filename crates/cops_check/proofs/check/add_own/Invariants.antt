use Rattle.std.proofs.Common.{◌≡◌, ◌++◌, map, take}
use Rattle.cops_check.specs.Check.{own_names}
use Rattle.cops_check.proofs.check.add_own.Given as goal

abbrev pub invariant-loop-outcome : goal.invariant-loop-outcome
invariant-loop-outcome l = map (λ name. name.items) l.copies.items ≡ map (λ name. name.items) l.initial.copies.items ++ own_names (take l.outcome-index l.unknown)
