use Rattle.std.proofs.Common.{◌≡◌, ℕ, nat_eq, take}
use Rattle.std.specs.List.{list_any}
use Rattle.cops_check.proofs.numbers.lines_of.Given as goal

abbrev pub invariant-loop-outcome : goal.invariant-loop-outcome
invariant-loop-outcome l = (number : ℕ) → list_any (nat_eq number) l.lines.keys ≡ list_any (λ o. nat_eq number o.line) (take l.outcome-index l.unknown)
