use Rattle.cops_replication.specs.Sending.{Carries}
use Rattle.cops_replication.proofs.sender.Sender.drain.Given as goal

abbrev pub invariant-loop : goal.invariant-loop
invariant-loop g l = Carries l.cluster l.initial.self l.self
