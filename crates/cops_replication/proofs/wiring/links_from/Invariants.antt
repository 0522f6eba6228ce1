use Rattle.cops_replication.specs.Making.{rows}
use Rattle.cops_replication.proofs.Joining.{MadeBelow}
use Rattle.cops_replication.proofs.wiring.links_from.Given as goal

abbrev pub invariant-loop-to : goal.invariant-loop-to
invariant-loop-to l = MadeBelow l.to l.from l.capacity l.ins.items (rows l.initial.outs) (rows l.outs)
