use Rattle.std.proofs.Common.{◌≡◌, [], map, replicate}
use Rattle.cops_check.proofs.numbers.no_numbers.Given as goal

abbrev pub invariant-loop-client : goal.invariant-loop-client
invariant-loop-client l = map (λ numbers. numbers.items) l.table.items ≡ replicate l._client []
