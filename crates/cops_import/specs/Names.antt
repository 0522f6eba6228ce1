-- Names, each once, in the order in which they first appear.
use Rattle.std.specs.Prelude.{◌==◌, ℕ, Bool, List, ◌∷◌, [], ◌++◌, if◌then◌else◌}
use Rattle.std.specs.List.{list_any, position_or_len}
use Rattle.std.specs.Cmp.Lexicographic.{pointwise}

-- the two have the same bytes
abbrev pub same : List ℕ → List ℕ → Bool
same = pointwise ◌==◌

-- the names with one more, which is added at the end if it is new
abbrev pub with_name : List (List ℕ) → List ℕ → List (List ℕ)
with_name names name = if list_any (same name) names then names else names ++ name ∷ []

-- a client's number: the index of its name
abbrev pub number_of : List (List ℕ) → List ℕ → ℕ
number_of names name = position_or_len (same name) names
