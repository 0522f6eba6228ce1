use Rattle.std.proofs.Common.{◌≡◌, All}
use Rattle.cops_replication.specs.Making.{rows}
use Rattle.cops_replication.specs.declared.sender.Sender.{Sender}
use Rattle.cops_replication.proofs.Joining.{JoinedBelow}
use Rattle.cops_replication.proofs.wiring.senders.Given as goal

abbrev pub invariant-loop-dc : goal.invariant-loop-dc
invariant-loop-dc l = record {
  joined : JoinedBelow l.dc l.dcs l.capacity l.senders.items (rows l.outs);
  repeat : All (λ (s : Sender). s.repeat ≡ l.repeat) l.senders.items;
}
