-- The keys of a history, each once, in the order of their first use.
use Rattle.std.specs.Prelude.{◌≡◌, ℕ, ◌+◌, ◌<◌, ◌≤◌, List, [], length, slice_get, slice_index_or, Some}

-- the keys, and the room for further keys
pub record KeptKeys : Type 0 where
  pub keys : List (List ℕ)
  pub spare : ℕ

-- equal keys have equal indexes
abbrev pub AreDistinct : List (List ℕ) → Type 0
AreDistinct keys = (i j : ℕ) (key : List ℕ) → slice_get keys i ≡ Some key → slice_get keys j ≡ Some key → i ≡ j

-- each key keeps its index, and new keys come after the old ones
pub record KeepsPlaces (old new : List (List ℕ)) : Type 0 where
  pub longer : length old ≤ length new
  pub same : (i : ℕ) → i < length old → slice_index_or new i [] ≡ slice_index_or old i []

-- at most one key was added, at the end, and it took at most one place of the room
pub record GainsKey (old new : KeptKeys) : Type 0 where
  pub places : KeepsPlaces old.keys new.keys
  pub distinct : AreDistinct new.keys
  pub few : length new.keys ≤ length old.keys + 1
  pub spare : old.spare ≤ new.spare + 1
