-- The representation of a store: a map of keys, each with the place of the pair that it shows, and a map of the pairs.
use Rattle.std.specs.Prelude.{◌≡◌, ◌<◌, ℕ, List, [], length, map, slice_get, slice_index_or, Option, None, Some}
use Rattle.std.specs.List.{AllByRecursion, IsDistinct}
use Rattle.std.specs.Map.{keys_of, lookup}
use Rattle.std.specs.Str.{bytes_eq}
use Rattle.cops_store.specs.Store.{Stored, shown}
use Rattle.cops_store.specs.Settling.{shown_keys}
use Rattle.cops_store.specs.declared.place.KeyPlace.{KeyPlace}

-- keys, each with the place of the pair that it shows
abbrev pub Keys : Type 0
Keys = List (List ℕ × ℕ)

-- pairs, each with its content
abbrev pub Pairs : Type 0
Pairs = List (KeyPlace × Option (List ℕ))

abbrev pub key_at : Keys → ℕ → List ℕ
key_at keys i = slice_index_or (keys_of keys) i []

abbrev pub stored_at : Keys → KeyPlace × Option (List ℕ) → Stored
stored_at keys p = record { key = key_at keys p.0.key; value = p.1; version = p.0.version }

-- the settled pairs, as callers see them
abbrev pub settled_in : Keys → Pairs → List Stored
settled_in keys pairs = map (stored_at keys) pairs

-- the key shows nothing, or it shows the pair at this place
abbrev pub ShowsAt : List Stored → List ℕ → Option ℕ → Type 0
ShowsAt settled key None = shown settled key ≡ None
ShowsAt settled key (Some at) = (at < length settled) × (shown settled key ≡ slice_get settled at)

-- the keys are distinct; each pair's key is among them, each key shows the pair at its place, and no other keys are there
pub record IsIndex (keys : Keys) (pairs : Pairs) : Type 0 where
  pub distinct : IsDistinct bytes_eq (keys_of keys)
  pub placed : AllByRecursion (λ (p : KeyPlace × Option (List ℕ)). p.0.key < length keys) pairs
  pub shows : (key : List ℕ) → ShowsAt (settled_in keys pairs) key (lookup (bytes_eq key) keys)
  pub count : length keys ≡ length (shown_keys (settled_in keys pairs))
