-- What closing a cluster returns when it fails.
use Rattle.std.specs.Prelude.{◌≡◌, ◌+◌, ◌*◌, ◌≤◌, ℕ, List, length, vec_len, vec_capacity}
use Rattle.std.specs.Global.{Vec}
use Rattle.cops_node.specs.declared.entry.Entry.{Entry}
use Rattle.cops_cluster.specs.declared.share.Share.{Share}
use Rattle.cops_cluster.specs.declared.cluster.Cluster.{Cluster}
use Rattle.cops_cluster.specs.declared.closing.Rooms.{Rooms}
use Rattle.cops_cluster.specs.declared.closing.CloseFault.{CloseFault}
use Rattle.cops_cluster.specs.declared.closing.CloseFault.TheVariants.{Memory, SharesMissing, NotKept}
use Rattle.cops_cluster.specs.Close.{AllReplay, AreAll, made_in, reported}
use Rattle.cops_cluster.specs.Differences.{IsLeastDifference}

-- there are lists of entries, one for each node of the cluster, each of which replays, and this is the least ticket at which their entries and those
-- of the shares differ as multisets
pub record IsNotKept (c : Cluster) (shares : List Share) (ticket : ℕ) : Type 0 where
  pub books : List (Vec Entry)
  pub len : length books ≡ c.place.dcs * (length c.place.splits + 1)
  pub replays : AllReplay (length c.place.splits + 1) books
  pub least : IsLeastDifference (made_in (length c.place.splits + 1) 0 books) (reported shares) ticket

-- when memory runs out: a cluster of the same format, place and clients, and the shares; when a share is missing: everything unchanged; when the
-- entries differ: all shares were there, and the ticket is the least at which they differ from the books
abbrev pub HandsBack : Cluster → Vec Share → CloseFault → Type 0
HandsBack c shares (Memory cluster back) = (cluster.format ≡ c.format) × (cluster.place ≡ c.place) × (cluster.clients ≡ c.clients) × (back ≡ shares)
HandsBack c shares (SharesMissing cluster back) = (cluster ≡ c) × ((back ≡ shares) × (AreAll c.clients c.place.dcs shares.items → ⊥))
HandsBack c shares (NotKept ticket) = AreAll c.clients c.place.dcs shares.items × IsNotKept c shares.items ticket

-- the lists are empty, with room for `nodes` elements
abbrev pub HasRooms : ℕ → Rooms → Type 0
HasRooms nodes r =
    (vec_len r.books ≡ 0) × ((nodes ≤ vec_capacity r.books)
    × ((vec_len r.locks ≡ 0) × ((nodes ≤ vec_capacity r.locks)
    × ((vec_len r.lists ≡ 0) × (nodes ≤ vec_capacity r.lists)))))
