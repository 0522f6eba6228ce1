-- Marks: what a backward search from a name has found for each operation.
use Rattle.std.specs.Prelude.{◌≡◌, ◌<◌, ◌+◌, ◌⊎◌, ◌↔◌, ℕ, List, [], map, length, sum_by, count_by, replicate, Contains, Option, Some, None, is_none, slice_index_or, slice_set}
use Rattle.cops_types.specs.declared.op.OpName.{OpName}
use Rattle.cops_types.specs.Histories.{Sessions, IsNamed, SessionStep}
use Rattle.cops_types.specs.Past.{Step}
use Rattle.cops_report.specs.declared.marks.Mark.{Mark}

-- for each operation of each session its mark, if it has one
abbrev pub Table : Type 0
Table = List (List (Option Mark))

-- the mark of a name, none for a name that has no place in the table
abbrev pub mark_at : Table → OpName → Option Mark
mark_at t name = slice_index_or (slice_index_or t name.client []) name.index None

-- the table has a place for the name
abbrev pub HasPlace : Table → OpName → Type 0
HasPlace t name = name.index < length (slice_index_or t name.client [])

-- the places are those of the history's names
abbrev pub PlacesAll : Table → Sessions → Type 0
PlacesAll t h = (n : OpName) → HasPlace t n ↔ IsNamed h n

-- the table with this mark for the name
abbrev pub with_mark : Table → OpName → Mark → Table
with_mark t name mark = slice_set t name.client (slice_set (slice_index_or t name.client []) name.index (Some mark))

-- how many places have no mark
abbrev pub open_places : Table → ℕ
open_places t = sum_by (count_by is_none) t

-- no marks, and a place for each operation
abbrev pub unmarked : Sessions → Table
unmarked h = map (λ s. replicate (length s) None) h

-- the name is marked
abbrev pub IsMarked : Table → OpName → Type 0
IsMarked t name = (mark : Mark) × (mark_at t name ≡ Some mark)

-- the name is marked with fewer steps
abbrev pub IsNearer : Table → OpName → ℕ → Type 0
IsNearer t name steps = (m : Mark) × (mark_at t name ≡ Some m) × (m.steps < steps)

-- before each earlier operation of the session of the mark's next name that is marked with fewer steps, all operations are marked
abbrev pub SessionsMarked : Sessions → Table → Mark → Type 0
SessionsMarked h t mark = (n : OpName) → SessionStep h n mark.next → IsNearer t n mark.steps → (before : OpName) → SessionStep h before n → IsMarked t before

-- some names without a mark, from each of which a step leads to the mark's next name, got the mark and were added to the list; all else is as it was
pub record Gains (h : Sessions) (mark : Mark) (old new : Table) (names more : List OpName) : Type 0 where
  pub kept : (n : OpName) (m : Mark) → mark_at old n ≡ Some m → mark_at new n ≡ Some m
  pub gained : (n : OpName) (m : Mark) → mark_at new n ≡ Some m
      → (mark_at old n ≡ Some m) ⊎ ((mark_at old n ≡ None) × (m ≡ mark) × Step h n mark.next × Contains more n)
  pub listed : (n : OpName) → Contains more n → Contains names n ⊎ ((mark_at old n ≡ None) × (mark_at new n ≡ Some mark))
  pub stays : (n : OpName) → Contains names n → Contains more n
  pub count : open_places new + length more ≡ open_places old + length names
  pub places : (n : OpName) → HasPlace new n ↔ HasPlace old n
