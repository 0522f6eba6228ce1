use Rattle.std.proofs.Common.{◌≡◌, replicate, map, []}
use Rattle.cops_types.proofs.slots.Slots.new.Given as goal

abbrev pub invariant-loop : goal.invariant-loop
invariant-loop l = map (λ s. s.items) l.sessions.items ≡ replicate l.counter []
