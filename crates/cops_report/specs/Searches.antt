-- The backward search from a name, by the number of steps that lead to it.
use Rattle.std.specs.Prelude.{◌≡◌, ◌<◌, ◌≤◌, ◌+◌, ◌⊎◌, ◌↔◌, ℕ, List, [], ◌∷◌, Contains, Some, length, slice_index_or}
use Rattle.cops_types.specs.declared.op.OpName.{OpName}
use Rattle.cops_types.specs.Histories.{Sessions}
use Rattle.cops_types.specs.Past.{Step}
use Rattle.cops_types.specs.Faults.{IsBefore}
use Rattle.cops_report.specs.declared.marks.Mark.{Mark}
use Rattle.cops_report.specs.declared.search.Level.{Level}
use Rattle.cops_report.specs.Marks.{Table, IsMarked, PlacesAll, mark_at}

-- the name is marked with k steps
abbrev pub HasSteps : Table → OpName → ℕ → Type 0
HasSteps t n k = (m : Mark) × (mark_at t n ≡ Some m) × (m.steps ≡ k)

-- exactly the names that are marked with k steps
abbrev pub IsLevel : Table → ℕ → List OpName → Type 0
IsLevel t k names = (n : OpName) → Contains names n ↔ HasSteps t n k

-- the order of names, or the same name
abbrev pub IsAtOrBefore : OpName → OpName → Type 0
IsAtOrBefore a b = IsBefore a b ⊎ (a ≡ b)

-- each name of the list is at or before those after it
abbrev pub IsRising : List OpName → Type 0
IsRising names =
    (j k : ℕ) (d : OpName) → j ≤ k → k < length names → IsAtOrBefore (slice_index_or names j d) (slice_index_or names k d)

-- What is marked leads to `to` in as many steps as its mark says, and each mark's next name is the first that has one step less. The names one step before
-- a name with at most d steps, and one of those that are done if it has d, are marked with at most one step more.
pub record IsSearch (h : Sessions) (to : OpName) (t : Table) (d : ℕ) (done : List OpName) : Type 0 where
  pub root : HasSteps t to 0
  pub only_root : (n : OpName) → HasSteps t n 0 → n ≡ to
  pub step : (n : OpName) (m : Mark) (k : ℕ) → mark_at t n ≡ Some m → m.steps ≡ k + 1 → Step h n m.next × HasSteps t m.next k
  pub bound : (n : OpName) (k : ℕ) → HasSteps t n k → k ≤ d + 1
  pub near : (a b : OpName) (k : ℕ) → HasSteps t b k → k ≤ d → (k ≡ d → Contains done b) → Step h a b → (j : ℕ) × HasSteps t a j × (j ≤ k + 1)
  pub first : (a b : OpName) (m : Mark) (k : ℕ) → mark_at t a ≡ Some m → m.steps ≡ k + 1 → HasSteps t b k → Step h a b → IsAtOrBefore m.next b

-- a search that has marked all names up to those of the level, which are in order
pub record HasReached (h : Sessions) (to : OpName) (t : Table) (level : Level) : Type 0 where
  pub search : IsSearch h to t level.steps []
  pub is_level : IsLevel t level.steps level.names.items
  pub fresh : IsLevel t (level.steps + 1) []
  pub rising : IsRising level.names.items
  pub places : PlacesAll t h

-- a search that has reached `from`, or has no further name to reach
pub record IsFound (h : Sessions) (from to : OpName) (t : Table) : Type 0 where
  pub depth : ℕ
  pub search : IsSearch h to t depth []
  pub fresh : (n : OpName) → ¬ HasSteps t n (depth + 1)
  pub ends : IsMarked t from ⊎ ((n : OpName) → ¬ HasSteps t n depth)

-- from name to next name
abbrev pub Follows : Table → OpName → OpName → List OpName → Type 0
Follows t to from [] = from ≡ to
Follows t to from (next ∷ rest) =
    ((m : Mark) × (k : ℕ) × (mark_at t from ≡ Some m) × (m.steps ≡ k + 1) × (m.next ≡ next)) × Follows t to next rest

-- the name and those that follow along the marks
abbrev pub IsWalk : Table → OpName → OpName → List OpName → Type 0
IsWalk t to from [] = ⊥
IsWalk t to from (name ∷ rest) = (name ≡ from) × Follows t to name rest

-- each mark's next name has one step less, and the name with no steps is `to`
pub record LeadsBack (t : Table) (to : OpName) : Type 0 where
  pub root : (n : OpName) → HasSteps t n 0 → n ≡ to
  pub next : (n : OpName) (m : Mark) (k : ℕ) → mark_at t n ≡ Some m → m.steps ≡ k + 1 → HasSteps t m.next k
