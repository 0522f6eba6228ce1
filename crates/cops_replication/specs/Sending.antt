-- Definitions that a sender's contracts use.
use Rattle.std.specs.Prelude.{◌≡◌, ℕ, List}
use Rattle.std.specs.List.{All}
use Rattle.cops_cluster.specs.declared.cluster.Cluster.{Cluster}
use Rattle.cops_replication.specs.Lanes.{ALane, Carried, repeated}
use Rattle.cops_replication.specs.Reading.{Reading, AreReadBelow, IsReadingAt, puts_read, read_after}
use Rattle.cops_replication.specs.declared.sender.Sender.{Sender}

-- the sender's links, each with the frames that have to be sent on it
abbrev pub lanes : Sender → List ALane
lanes s = s.outbox

-- the sender read logs of its data centre's nodes and carried the puts that it found there, each as often as it sends a put
pub record Carries (cluster : Cluster) (before after : Sender) : Type 0 where
  pub dc : after.dc ≡ before.dc
  pub repeat : after.repeat ≡ before.repeat
  pub readings : List Reading
  pub nodes : All (IsReadingAt cluster before.dc) readings
  pub read : after.read ≡ read_after before.read readings
  pub carried : Carried (repeated before.repeat (puts_read before.read readings)) (lanes before) (lanes after)

-- `Carries`, and each node of its data centre at a place below `end` was read
pub record CarriesBelow (end : ℕ) (cluster : Cluster) (before after : Sender) : Type 0 where
  pub carries : Carries cluster before after
  pub all : AreReadBelow cluster before.dc end carries.readings
