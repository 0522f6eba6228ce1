-- Where keys live.
use Rattle.std.specs.Prelude.{◌≡◌, ℕ, ◌<◌, ◌≤◌, Bool, true, List, length, count_by, slice_index_or, All}
use Rattle.std.specs.Cmp.Lexicographic.{slice_cmp}
use Rattle.std.specs.List.{AllAdjacentBelow}
use Rattle.std.specs.Ordering.{is_le, is_lt, nat_cmp}
use Rattle.cops_types.specs.declared.format.Format.{Format}
use Rattle.cops_types.specs.declared.limits.TheConstants.{MAX_CLIENTS, MAX_DCS}
use Rattle.cops_place.specs.declared.place.TheConstants.{MAX_SPLITS}

-- the number of data centres, and the split keys, which cut the key space into a range for each of their nodes
pub record APlace : Type 0 where
  pub dcs : ℕ
  pub splits : List (List ℕ)

-- whether a key is not above another, and whether it is below another, byte by byte
abbrev pub is_at_most : List ℕ → List ℕ → Bool
is_at_most a b = is_le (slice_cmp nat_cmp a b)

abbrev pub is_below : List ℕ → List ℕ → Bool
is_below a b = is_lt (slice_cmp nat_cmp a b)

-- 1 to 16 data centres, of 1 to 64 nodes each
abbrev pub IsInRange : ℕ → List (List ℕ) → Type 0
IsInRange dcs splits = (1 ≤ dcs) × (dcs ≤ MAX_DCS) × (length splits ≤ MAX_SPLITS)

-- each split key is above the one before it
abbrev pub AreAscending : List (List ℕ) → Type 0
AreAscending splits = AllAdjacentBelow (λ a b. is_below a b ≡ true) splits (length splits)

-- the place of a key's node in each data centre: the number of split keys that are not above the key
abbrev pub primary : List (List ℕ) → List ℕ → ℕ
primary splits key = count_by (λ split. is_at_most split key) splits

pub record IsPlace (p : APlace) : Type 0 where
  pub range : IsInRange p.dcs p.splits
  pub ascending : AreAscending p.splits

-- what never changes: the format, which sets the limits, where keys live, and the data centre of each client
pub record Setting : Type 0 where
  pub format : Format
  pub place : APlace
  pub homes : List ℕ

pub record IsSetting (s : Setting) : Type 0 where
  pub place : IsPlace s.place
  pub homes : All (λ dc. dc < s.place.dcs) s.homes
  pub clients : length s.homes ≤ MAX_CLIENTS

abbrev pub home : Setting → ℕ → ℕ
home s client = slice_index_or s.homes client 0

-- the place of a key's node in each data centre of a setting
abbrev pub primary_in : Setting → List ℕ → ℕ
primary_in s key = primary s.place.splits key
