use Rattle.std.proofs.Common.{◌≡◌, ◌++◌, map}
use Rattle.cops_replication.specs.Receiving.{ends}
use Rattle.cops_replication.specs.Making.{rows}
use Rattle.cops_replication.specs.Wiring.{numbers}
use Rattle.cops_replication.specs.declared.receiver.Receiver.{Receiver}
use Rattle.cops_replication.proofs.wiring.receivers.Given as goal

abbrev pub invariant-loop-dc : goal.invariant-loop-dc
invariant-loop-dc l = record {
  dcs : map (λ (r : Receiver). r.dc) l.receivers.items ≡ numbers l.dc;
  links : map ends l.receivers.items ++ rows l.outs.rest.items ≡ rows l.fn.outs.items;
  shares : map (λ (r : Receiver). r.share) l.receivers.items ++ l.shares.rest.items ≡ l.fn.shares.items;
}
