-- How the books and the shares of a closed cluster correspond.
use Rattle.std.specs.Prelude.{◌≡◌, ℕ, ◌+◌, ◌<◌, ◌/◌, ◌%◌, ◌==◌, ◌&&◌, nat_lt, Bool, true, if◌then◌else◌, List, [], ◌∷◌, ◌++◌, length, map, slice_index_or}
use Rattle.std.specs.List.{list_any}
use Rattle.std.specs.Global.{Vec}
use Rattle.cops_node.specs.Node.{Node, opened}
use Rattle.cops_types.specs.NodeNumber.{node_number}
use Rattle.cops_node.specs.Book.{ABook, Replays}
use Rattle.cops_node.specs.declared.entry.Entry.{Entry}
use Rattle.cops_cluster.specs.declared.share.Holder.{Holder}
use Rattle.cops_cluster.specs.declared.share.Holder.TheVariants.{Client as OfClient, Receiver as OfReceiver}
use Rattle.cops_cluster.specs.declared.share.Made.{Made}
use Rattle.cops_cluster.specs.declared.share.Share.{Share}
use Rattle.cops_cluster.specs.Shares.{made}

-- the number of the nth node, where each data centre has `places` nodes
abbrev pub number_of : ℕ → ℕ → ℕ
number_of places n = node_number (n / places) (n % places)

-- replaying the entries from the empty node of this number leads to some node
abbrev pub IsReplay : ℕ → List Entry → Type 0
IsReplay number entries = (end : Node) × Replays (opened number) entries end

-- the entries of a book if it belongs to the nth node, and otherwise none
abbrev pub entries_at : ℕ → ℕ → ABook → List Entry
entries_at places n b = if b.node.number == number_of places n then b.entries else []

-- all entries of the books, the first of which is the nth node's, each with its node
abbrev pub made_by : ℕ → ℕ → List ABook → List Made
made_by places n [] = []
made_by places n (b ∷ bs) = map (made (number_of places n)) (entries_at places n b) ++ made_by places (n + 1) bs

-- all entries of the lists, the first of which is the nth node's, each with its node
abbrev pub made_in : ℕ → ℕ → List (Vec Entry) → List Made
made_in places n [] = []
made_in places n (v ∷ rest) = map (made (number_of places n)) v.items ++ made_in places (n + 1) rest

-- each list replays the steps of its node
abbrev pub AllReplay : ℕ → List (Vec Entry) → Type 0
AllReplay places lists = (n : ℕ) (d : Vec Entry) → n < length lists → IsReplay (number_of places n) (slice_index_or lists n d).items

-- all entries of the shares
abbrev pub reported : List Share → List Made
reported [] = []
reported (s ∷ ss) = s.entries.items ++ reported ss

-- whether a holder has this seat: the clients have the first seats, and the receivers follow
abbrev pub is_seat : ℕ → ℕ → Holder → Bool
is_seat clients seat (OfClient number) = (number == seat) && nat_lt number clients
is_seat clients seat (OfReceiver dc) = clients + dc == seat

-- exactly one share for each client and each receiver
abbrev pub AreAll : ℕ → ℕ → List Share → Type 0
AreAll clients dcs shares =
    (length shares ≡ clients + dcs)
    × ((seat : ℕ) → seat < clients + dcs → list_any (λ (s : Share). is_seat clients seat s.holder) shares ≡ true)

-- the holders of the shares
abbrev pub holders : List Share → List Holder
holders shares = map (λ (s : Share). s.holder) shares
