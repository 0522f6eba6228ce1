-- A front end in which nothing has happened.
use Rattle.std.specs.Prelude.{◌≡◌, ◌-◌, List, [], length, map, All, IsNone}
use Rattle.cops_cluster.specs.Opening.{AreClientsAt, AreReceivers as AreSharesOfReceivers}
use Rattle.cops_cluster.specs.declared.share.Share.{Share}
use Rattle.cops_replication.specs.Receiving.{ends}
use Rattle.cops_replication.specs.Sending.{lanes}
use Rattle.cops_replication.specs.Wiring.{AreJoined, AreReceivers, AreSenders}
use Rattle.cops_replication.specs.declared.sender.Sender.{Sender}
use Rattle.cops_scenario.specs.Scenario.{AScenario, homes_of}
use Rattle.cops_serve.specs.declared.front_end.FrontEnd.{FrontEnd}

-- a cluster of the scenario's format, its clients, and a sender and a receiver for each data centre, all with empty shares; no client has greeted,
-- there was no call, and no session has ended
pub record IsOpened (s : AScenario) (f : FrontEnd) : Type 0 where
  pub turns : f.turns ≡ s.turns
  pub format : f.cluster.format ≡ s.format
  pub place : f.cluster.place ≡ s.place
  pub clients : AreClientsAt (homes_of s) (length (homes_of s)) f.clients.items
  pub senders : AreSenders s.place.dcs (s.place.dcs - 1) s.link f.senders.items
  pub repeat : All (λ (x : Sender). x.repeat ≡ s.repeat) f.senders.items
  pub shares : List Share
  pub empty : AreSharesOfReceivers s.place.dcs shares
  pub receivers : AreReceivers s.place.dcs shares f.receivers.items
  pub joined : AreJoined s.place.dcs (map lanes f.senders.items) (map ends f.receivers.items)
  pub greeted : IsNone f.greeted
  pub calls : f.calls.items ≡ []
  pub ended : f.ended ≡ 0
