-- What a store contains: the pairs of a key and a version that were settled, with their contents.
use Rattle.std.specs.Prelude.{ℕ, ◌++◌, Bool, if◌then◌else◌, List, [], ◌∷◌, nat_lt, bytes_eq, Option, None, Some}
use Rattle.std.specs.List.{list_any}
use Rattle.cops_types.specs.declared.dep.Dep.{Dep}
use Rattle.cops_types.specs.Dep.{is_same_dep}

-- a settled pair with its content; a deletion where there is no value
pub record Stored : Type 0 where
  pub key : List ℕ
  pub value : Option (List ℕ)
  pub version : ℕ

abbrev pub stored_pair : Stored → Dep
stored_pair s = record { key = s.key; version = s.version }

-- exactly this pair was settled
abbrev pub has_pair : List Stored → Dep → Bool
has_pair settled pair = list_any (λ s. is_same_dep pair (stored_pair s)) settled

-- the settled pairs with one more, which is appended unless it is there already
abbrev pub with_settled : List Stored → Stored → List Stored
with_settled settled s = if has_pair settled (stored_pair s) then settled else settled ++ s ∷ []

-- the one of two pairs with the greater version
abbrev pub newer : Stored → Option Stored → Stored
newer s None = s
newer s (Some t) = if nat_lt t.version s.version then s else t

-- the pair with the greatest version on the key
abbrev pub shown : List Stored → List ℕ → Option Stored
shown [] key = None
shown (s ∷ settled) key = if bytes_eq key s.key then Some (newer s (shown settled key)) else shown settled key
