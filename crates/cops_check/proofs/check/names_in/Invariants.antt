use Rattle.std.proofs.Common.{◌≡◌, map, take}
use Rattle.cops_check.proofs.check.names_in.Given as goal

abbrev pub invariant-loop-client : goal.invariant-loop-client
invariant-loop-client l = map (λ name. name.items) l.copies.items ≡ take l.client l.names
