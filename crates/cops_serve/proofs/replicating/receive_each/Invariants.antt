use Rattle.std.proofs.Common.{◌≡◌}
use Rattle.cops_serve.specs.Seats.{holders_of}
use Rattle.cops_serve.proofs.replicating.receive_each.Given as goal

abbrev pub invariant-loop-receiver : goal.invariant-loop-receiver
invariant-loop-receiver g l = holders_of l.receivers ≡ holders_of l.fn.receivers
