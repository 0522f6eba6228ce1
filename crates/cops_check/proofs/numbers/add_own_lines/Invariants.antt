use Rattle.std.proofs.Common.{◌≡◌, ◌++◌, map, take}
use Rattle.cops_import.specs.Outcomes.{took_effect}
use Rattle.cops_check.proofs.numbers.add_own_lines.Given as goal

abbrev pub invariant-loop-outcome : goal.invariant-loop-outcome
invariant-loop-outcome l = l.numbers.items ≡ l.initial.numbers.items ++ map (λ o. o.line) (took_effect (take l.outcome-index l.unknown))
