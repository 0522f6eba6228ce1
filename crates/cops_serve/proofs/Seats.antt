-- The holders of a front end's shares, when it is opened and when it ends.
use Rattle.std.proofs.Common.{◌≡◌, ℕ, List, [], ◌∷◌, ◌++◌, map, slice_index_or, slice_set, refl, sym, ap, ◌∙◌, arith}
use Rattle.std.proofs.Math.Seq.{map-set_same}
use Rattle.std.proofs.lemmas.List.{map-append}
use Rattle.cops_cluster.specs.Close.{AreAll, holders}
use Rattle.cops_cluster.specs.Opening.{AreClientsAt, AreReceivers as AreSharesOfReceivers}
use Rattle.cops_cluster.specs.declared.client.Client.{Client}
use Rattle.cops_cluster.specs.declared.share.Holder.{Holder}
use Rattle.cops_cluster.specs.declared.share.Holder.TheVariants.{Client as OfClient, Receiver as OfReceiver}
use Rattle.cops_cluster.specs.declared.share.Share.{Share}
use Rattle.cops_replication.specs.Wiring.{AreReceivers, numbers}
use Rattle.cops_replication.specs.declared.receiver.Receiver.{Receiver}
use Rattle.cops_replication.proofs.Seats.{all_seated, held_from}
use Rattle.cops_serve.specs.Seats.{AreSeated}

through : {X : Type 0} (f : X → Share) (xs : List X) → map (λ (x : X). (f x).holder) xs ≡ holders (map f xs)
through f [] = refl
through f (x ∷ xs) = ap (λ (hs : List Holder). (f x).holder ∷ hs) (through f xs)

-- a new front end
pub opened : (homes : List ℕ) (count dcs : ℕ) (clients : List Client) (shares : List Share) (receivers : List Receiver) → AreClientsAt homes count clients → AreSharesOfReceivers dcs shares
    → AreReceivers dcs shares receivers → AreSeated count dcs clients receivers
opened homes count dcs clients shares receivers of_clients of_shares wired = (
  held_from (λ (c : Client). c.share.holder) OfClient clients 0 count of_clients.0 (λ k d less. of_clients.4 k d less ∙ ap OfClient (omega arith)),
  through (λ (r : Receiver). r.share) receivers ∙ ap holders wired.1
      ∙ held_from (λ (s : Share). s.holder) OfReceiver shares 0 dcs of_shares.0 (λ k d less. of_shares.1 k d less ∙ ap OfReceiver (omega arith)),
)

-- the shares of the clients and receivers are all shares
pub all_of : (count dcs : ℕ) (clients : List Client) (receivers : List Receiver) (shares : List Share) → AreSeated count dcs clients receivers
    → shares ≡ map (λ (c : Client). c.share) clients ++ map (λ (r : Receiver). r.share) receivers → AreAll count dcs shares
all_of count dcs clients receivers shares (of_clients, of_receivers) are =
    let own : List Share = map (λ (c : Client). c.share) clients in
    let theirs : List Share = map (λ (r : Receiver). r.share) receivers in
    let each : holders own ≡ map OfClient (numbers count) = sym (through (λ (c : Client). c.share) clients) ∙ of_clients in
    let beside : holders theirs ≡ map OfReceiver (numbers dcs) = sym (through (λ (r : Receiver). r.share) receivers) ∙ of_receivers in
    all_seated count dcs shares
    (ap holders are ∙ map-append (λ (s : Share). s.holder) own theirs ∙ ap (λ (hs : List Holder). hs ++ holders theirs) each ∙ ap (λ (hs : List Holder). map OfClient (numbers count) ++ hs) beside)

-- putting back a client whose share still has its holder
pub kept : (count dcs : ℕ) (clients : List Client) (receivers : List Receiver) (place : ℕ) (before after : Client) → AreSeated count dcs clients receivers
    → ((d : Client) → before ≡ slice_index_or clients place d) → after.share.holder ≡ before.share.holder → AreSeated count dcs (slice_set clients place after) receivers
kept count dcs clients receivers place before after seated at same =
    let holder : Client → Holder = λ c. c.share.holder in
    (map-set_same holder clients place after before (same ∙ ap holder (at before)) ∙ seated.0, seated.1)
