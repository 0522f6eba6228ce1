-- The representation of a held table: a map from versions.
use Rattle.std.specs.Prelude.{◌≡◌, ℕ, List, Bool, not, length, count_by}
use Rattle.std.specs.List.{AllByRecursion}
use Rattle.cops_types.specs.declared.put_record.PutRecord.{PutRecord}
use Rattle.cops_held.specs.Held.{Waiting}

-- each put is stored at its version
abbrev pub IsTable : List (ℕ × Waiting) → Type 0
IsTable entries = AllByRecursion (λ (e : ℕ × Waiting). e.1.put.version ≡ e.0) entries

-- there is a mark for each dependency, and `open_marks` of them are not set
pub record HasMarks (put : PutRecord) (marks : List Bool) (open_marks : ℕ) : Type 0 where
  pub each : length marks ≡ length put.deps
  pub count : open_marks ≡ count_by not marks
