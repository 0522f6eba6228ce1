-- Reading logs one after the other, each from where its last reading ended.
use Rattle.std.specs.Prelude.{◌≡◌, ◌<◌, ◌==◌, Bool, true, ℕ, List, [], ◌∷◌, ◌++◌, drop, length, replicate, slice_index, slice_set}
use Rattle.std.specs.List.{list_any}
use Rattle.cops_types.specs.declared.limits.TheConstants.{PLACES}
use Rattle.cops_types.specs.declared.put_record.PutRecord.{PutRecord}
use Rattle.cops_node.specs.Book.{puts_in}
use Rattle.cops_node.specs.declared.entry.Entry.{Entry}
use Rattle.cops_cluster.specs.Cluster.{IsNode}
use Rattle.cops_cluster.specs.declared.cluster.Cluster.{Cluster}

-- the node at this place had these entries
pub record Reading : Type 0 where
  pub place : ℕ
  pub entries : List Entry

-- there is a node of this data centre at this place
abbrev pub IsReadingAt : Cluster → ℕ → Reading → Type 0
IsReadingAt cluster dc r = IsNode cluster dc r.place × (r.place < PLACES)

abbrev pub is_at : ℕ → Reading → Bool
is_at place r = r.place == place

-- each node of the data centre that is at a place below this one was read
abbrev pub AreReadBelow : Cluster → ℕ → ℕ → List Reading → Type 0
AreReadBelow cluster dc end readings = (place : ℕ) → place < end → IsNode cluster dc place → list_any (is_at place) readings ≡ true

-- for each node, by its place, how many entries were read: none yet
abbrev pub unread : List ℕ
unread = replicate PLACES 0

-- how many entries of each node were read after these readings: all that there were
abbrev pub read_after : List ℕ → List Reading → List ℕ
read_after read [] = read
read_after read (r ∷ rs) = read_after (slice_set read r.place (length r.entries)) rs

-- the puts that these readings found, in order
abbrev pub puts_read : List ℕ → List Reading → List PutRecord
puts_read read [] = []
puts_read read (r ∷ rs) = puts_in (drop (slice_index read r.place) r.entries) ++ puts_read (slice_set read r.place (length r.entries)) rs
