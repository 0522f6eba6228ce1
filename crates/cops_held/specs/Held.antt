-- What a held table contains: puts that wait, in order of versions, each with the marks of its dependencies.
use Rattle.std.specs.Prelude.{ℕ, ◌==◌, Bool, true, false, if◌then◌else◌, List, [], ◌∷◌, length, replicate, slice_set, find, nat_lt, Option}
use Rattle.std.specs.List.{list_all}
use Rattle.cops_types.specs.declared.put_record.PutRecord.{PutRecord}

-- a put that waits, with a mark for each of its dependencies
pub record Waiting : Type 0 where
  pub put : PutRecord
  pub marks : List Bool

-- a put as it is delivered: no dependency is marked
abbrev pub unmarked : PutRecord → Waiting
unmarked put = record { put = put; marks = replicate (length put.deps) false }

abbrev pub is_at : ℕ → Waiting → Bool
is_at version w = w.put.version == version

-- the put that waits at a version
abbrev pub waiting : List Waiting → ℕ → Option Waiting
waiting held version = find (is_at version) held

-- the table with one more put, in its place in the order of versions
abbrev pub with_waiting : List Waiting → Waiting → List Waiting
with_waiting [] w = w ∷ []
with_waiting (x ∷ held) w = if nat_lt w.put.version x.put.version then w ∷ x ∷ held else x ∷ with_waiting held w

abbrev pub all_marked : Waiting → Bool
all_marked w = list_all (λ m. m) w.marks

abbrev pub marked : ℕ → Waiting → Waiting
marked dep w = record { put = w.put; marks = slice_set w.marks dep true }

-- the table with a dependency of the put at the version marked, or with that put removed
abbrev pub with_mark : List Waiting → ℕ → ℕ → List Waiting
with_mark [] version dep = []
with_mark (w ∷ held) version dep = if is_at version w then marked dep w ∷ held else w ∷ with_mark held version dep

abbrev pub without : List Waiting → ℕ → List Waiting
without [] version = []
without (w ∷ held) version = if is_at version w then held else w ∷ without held version
