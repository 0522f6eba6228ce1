-- Where the entries of two lists differ as multisets.
use Rattle.std.specs.Prelude.{ℕ, ◌<◌, ◌==◌, List, Option, None, Some}
use Rattle.std.specs.List.{filter}
use Rattle.std.specs.List.Sorted.{IsPermutation}
use Rattle.cops_cluster.specs.declared.share.Made.{Made}

-- the entries of one ticket
abbrev pub at_ticket : ℕ → List Made → List Made
at_ticket t ms = filter (λ m. m.entry.ticket == t) ms

-- this is the least ticket at which the entries of the two lists differ as multisets
pub record IsLeastDifference (xs ys : List Made) (t : ℕ) : Type 0 where
  pub differs : IsPermutation (at_ticket t xs) (at_ticket t ys) → ⊥
  pub below : (u : ℕ) → u < t → IsPermutation (at_ticket u xs) (at_ticket u ys)

-- the answer of a comparison of two lists of entries: nothing where they are equal as multisets, and otherwise the least ticket at which they differ
abbrev pub Compares : List Made → List Made → Option ℕ → Type 0
Compares xs ys None = IsPermutation xs ys
Compares xs ys (Some t) = IsLeastDifference xs ys t
