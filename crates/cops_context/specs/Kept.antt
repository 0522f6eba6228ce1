-- The model and the invariant of a context.
use Rattle.std.specs.Prelude.{◌≤◌, ℕ, Bool, List, [], ◌∷◌, ◌++◌, length, Option, None, Some}
use Rattle.std.specs.List.{IsDistinct}
use Rattle.cops_types.specs.declared.dep.Dep.{Dep}
use Rattle.cops_types.specs.declared.format.Format.{Format}
use Rattle.cops_types.specs.Dep.{is_same_dep}

-- the format whose limit the context has, the pairs in order of arrival, and whether there is room for one more
pub record AContext : Type 0 where
  pub format : Format
  pub pairs : List Dep
  pub room : Bool

-- the pairs of the set, and then the one stored next to it, if there is one
abbrev pub and_beside : List Dep → Option Dep → List Dep
and_beside pairs None = pairs
and_beside pairs (Some pair) = pairs ++ pair ∷ []

-- at most `most` pairs, all different
pub record IsContext (most : ℕ) (pairs : List Dep) : Type 0 where
  pub few : length pairs ≤ most
  pub distinct : IsDistinct is_same_dep pairs
