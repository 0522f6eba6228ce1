-- Epoch arrays: numbers that count only in the epoch in which they were written.
use Rattle.std.specs.Prelude.{ℕ, List, ◌++◌, ◌==◌, if◌then◌else◌, map, replicate}
use Rattle.cops_audit.specs.declared.epochs.EpochEntry.{EpochEntry}

-- the number, or 0 where it was written in another epoch
abbrev pub number_in : ℕ → EpochEntry → ℕ
number_in epoch entry = if entry.epoch == epoch then entry.number else 0

-- the numbers of entries, and then `more` zeros, which have no entry
abbrev pub numbers_in : ℕ → List EpochEntry → ℕ → List ℕ
numbers_in epoch entries more = map (number_in epoch) entries ++ replicate more 0
