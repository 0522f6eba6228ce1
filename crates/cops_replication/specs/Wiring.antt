-- The senders and receivers of all data centres, and a link from each sender to each other receiver.
use Rattle.std.specs.Prelude.{◌≡◌, ◌≢◌, ℕ, ◌-◌, ◌<◌, if◌then◌else◌, nat_lt, List, [], length, map, slice_get, slice_index_or, Option, Some, None}
use Rattle.std.specs.List.{All, range_with_len}
use Rattle.cops_cluster.specs.declared.share.Share.{Share}
use Rattle.cops_link.specs.Link.{known_room, sent, taken, IsLink}
use Rattle.cops_link.specs.declared.ends.LinkIn.{LinkIn}
use Rattle.cops_link.specs.declared.ends.LinkOut.{LinkOut}
use Rattle.cops_replication.specs.Lanes.{ALane}
use Rattle.cops_replication.specs.Reading.{unread}
use Rattle.cops_replication.specs.Receiving.{ends}
use Rattle.cops_replication.specs.Sending.{lanes}
use Rattle.cops_replication.specs.declared.receiver.Receiver.{Receiver}
use Rattle.cops_replication.specs.declared.sender.Sender.{Sender}

-- the numbers of the first `count` data centres, from 0 on
abbrev pub numbers : ℕ → List ℕ
numbers count = range_with_len 0 count

-- a link on which nothing was sent, with room for `capacity` frames
abbrev pub IsFreshIn : ℕ → LinkIn → Type 0
IsFreshIn capacity l = (sent l ≡ []) × (known_room l ≡ capacity)

-- a link on which nothing was sent and nothing is due, with room for `capacity` frames
abbrev pub IsFreshLane : ℕ → ALane → Type 0
IsFreshLane capacity l = IsFreshIn capacity l.link × (l.due ≡ [])

-- a sender that has read nothing, with `links` such links
abbrev pub IsFreshSender : ℕ → ℕ → Sender → Type 0
IsFreshSender links capacity s = (s.read ≡ unread) × (length (lanes s) ≡ links) × All (IsFreshLane capacity) (lanes s)

-- a link from which nothing was taken
abbrev pub IsFreshOut : LinkOut → Type 0
IsFreshOut l = taken l ≡ []

-- a receiver with `links` such links
abbrev pub IsFreshReceiver : ℕ → Receiver → Type 0
IsFreshReceiver links r = (length (ends r) ≡ links) × All IsFreshOut (ends r)

-- the senders of the first `count` data centres, in order, each with `links` links of this capacity
abbrev pub AreSenders : ℕ → ℕ → ℕ → List Sender → Type 0
AreSenders count links capacity senders = (map (λ (s : Sender). s.dc) senders ≡ numbers count) × All (IsFreshSender links capacity) senders

-- the receivers of the data centres, in order, each with its share and a link from each other one
abbrev pub AreReceivers : ℕ → List Share → List Receiver → Type 0
AreReceivers dcs shares receivers =
    (map (λ (r : Receiver). r.dc) receivers ≡ numbers dcs)
    × (map (λ (r : Receiver). r.share) receivers ≡ shares)
    × All (IsFreshReceiver (dcs - 1)) receivers

-- ---- which ends belong together

-- the place of another data centre in the list of all data centres but `own`, in order
abbrev pub place_beside : ℕ → ℕ → ℕ
place_beside own other = if nat_lt own other then other - 1 else other

-- the element that a data centre has for another one, in lists that are ordered by the other data centres
abbrev pub for_other : {X : Type 0} → List (List X) → ℕ → ℕ → Option X
for_other rows own other = slice_get (slice_index_or rows own []) (place_beside own other)

-- both exist, and they are the ends of one link
abbrev pub AreOfOneLink : Option ALane → Option LinkOut → Type 0
AreOfOneLink (Some l) (Some o) = IsLink l.link o
AreOfOneLink (Some l) None = ⊥
AreOfOneLink None o = ⊥

-- the sender of each data centre and the receiver of each other one hold the ends of one link
abbrev pub AreJoined : ℕ → List (List ALane) → List (List LinkOut) → Type 0
AreJoined dcs senders receivers =
    (from : ℕ) (to : ℕ) → from < dcs → to < dcs → from ≢ to → AreOfOneLink (for_other senders from to) (for_other receivers to from)
