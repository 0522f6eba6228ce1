-- Versions as other stores have them, their order, and the versions of their ranks.
use Rattle.std.specs.Prelude.{◌≡◌, ◌≢◌, ◌+◌, ◌<◌, ◌^◌, ◌↔◌, ℕ, List, length, map, Option, None, Some, slice_get}
use Rattle.std.specs.Cmp.Lexicographic.{slice_cmp}
use Rattle.std.specs.List.{All, AllPairs}
use Rattle.std.specs.Ordering.{nat_cmp, ordering_then}
use Rattle.std.specs.declared.cmp.Ordering.{Ordering}
use Rattle.std.specs.declared.cmp.Ordering.TheVariants.{Less}
use Rattle.serde_json.specs.Data.{Data, array, item, no_items}
use Rattle.cops_json.specs.Json.{number_json, text_json}
use Rattle.cops_types.specs.NodeNumber.{version_of}
use Rattle.cops_import.specs.declared.store_version.StoreVersion.{StoreVersion}
use Rattle.cops_import.specs.declared.store_version.StoreVersion.TheVariants as rust
use Rattle.cops_import.specs.declared.keys.Keys.{Keys}
use Rattle.cops_import.specs.declared.keys.Keys.TheVariants as keys

-- a version of another store: a number, a text, or a number and a text
pub data AStoreVersion : Type 0 where
  number : ℕ → AStoreVersion
  text : List ℕ → AStoreVersion
  pair : ℕ → List ℕ → AStoreVersion

-- its JSON
abbrev pub store_json : AStoreVersion → Data
store_json (number n) = number_json n
store_json (text bytes) = text_json bytes
store_json (pair n bytes) = array (item (number_json n) (item (text_json bytes) no_items))

-- the order of two versions of one kind: by number, and then by the bytes of the text
abbrev pub order : AStoreVersion → AStoreVersion → Option Ordering
order (number m) (number n) = Some (nat_cmp m n)
order (text a) (text b) = Some (slice_cmp nat_cmp a b)
order (pair m a) (pair n b) = Some (ordering_then (nat_cmp m n) (slice_cmp nat_cmp a b))
order _ _ = None

abbrev pub IsBelow : AStoreVersion → AStoreVersion → Type 0
IsBelow a b = order a b ≡ Some Less

-- the version has the kind of these, which is any kind if there are none
abbrev pub IsOfKind : List AStoreVersion → AStoreVersion → Type 0
IsOfKind all v = All (λ w. order w v ≢ None) all

-- strictly increasing, and so of one kind
abbrev pub IsIncreasing : List AStoreVersion → Type 0
IsIncreasing all = AllPairs IsBelow all

-- the version of a trace at this place: its clock is the place counted from 1, which is the rank, and its node is 0
abbrev pub version_at : ℕ → ℕ
version_at place = version_of (place + 1) 0

-- `v` is the version of a trace for this version of a store
abbrev pub IsRankOf : List AStoreVersion → AStoreVersion → ℕ → Type 0
IsRankOf all of v = (place : ℕ) × (slice_get all place ≡ Some of) × (v ≡ version_at place)

-- two versions of a store have equal versions in the trace where they are equal, and in the order of theirs
abbrev pub KeepsOrder : List AStoreVersion → Type 0
KeepsOrder all = (a b : AStoreVersion) (v w : ℕ) → IsRankOf all a v → IsRankOf all b w → ((v ≡ w) ↔ (a ≡ b)) × ((v < w) ↔ IsBelow a b)

-- ---- as the program has them

abbrev pub stored : StoreVersion → AStoreVersion
stored (rust.Number n) = number n
stored (rust.Text bytes) = text bytes.items
stored (rust.Pair p) = pair p.0 p.1.items

abbrev pub all_stored : Keys → List AStoreVersion
all_stored (keys.Numbers ns) = map number ns.items
all_stored (keys.Texts texts) = map (λ t. text t.items) texts.items
all_stored (keys.Pairs pairs) = map (λ p. pair p.0 p.1.items) pairs.items

-- increasing, and few enough to be clocks
pub record AreRanks (all : List AStoreVersion) : Type 0 where
  pub increasing : IsIncreasing all
  pub few : length all < 2 ^ 48
