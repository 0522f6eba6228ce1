-- The holders of a front end's shares.
use Rattle.std.specs.Prelude.{◌≡◌, ℕ, List, map}
use Rattle.cops_cluster.specs.declared.client.Client.{Client}
use Rattle.cops_cluster.specs.declared.share.Holder.{Holder}
use Rattle.cops_cluster.specs.declared.share.Holder.TheVariants.{Client as OfClient, Receiver as OfReceiver}
use Rattle.cops_replication.specs.Wiring.{numbers}
use Rattle.cops_replication.specs.declared.receiver.Receiver.{Receiver}

-- the holders of the receivers' shares
abbrev pub holders_of : List Receiver → List Holder
holders_of receivers = map (λ (r : Receiver). r.share.holder) receivers

-- each of `count` clients and each of `dcs` receivers has its own share, in order
abbrev pub AreSeated : ℕ → ℕ → List Client → List Receiver → Type 0
AreSeated count dcs clients receivers =
    (map (λ (c : Client). c.share.holder) clients ≡ map OfClient (numbers count))
    × (holders_of receivers ≡ map OfReceiver (numbers dcs))
