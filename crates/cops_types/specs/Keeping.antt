-- The invariant of a history.
use Rattle.std.specs.Prelude.{◌≡◌, ◌<◌, ◌≤◌, ℕ, List, length, slice_get, slice_index_or, Some, Bool, true, false, sum_by}
use Rattle.cops_types.specs.Counts.{count_of, put_count}
use Rattle.cops_types.specs.declared.entry.StoredOp.{StoredOp}
use Rattle.cops_types.specs.declared.maxima.Maxima.{Maxima}
use Rattle.cops_types.specs.Entries.{KeptEntries, reported_by, AreSound, key_number_of}
use Rattle.cops_types.specs.Maxima.{AreSessionMaxima}
use Rattle.cops_types.specs.KeySets.{KeptKeys, AreDistinct}
use Rattle.cops_types.specs.Recorded.{IsWithinLimits}

-- a set flag counts 1
abbrev pub flag_count : Bool → ℕ
flag_count true = 1
flag_count false = 0

-- there are `len` operations, whose keys and sources are there, a name for each put, and the maxima of the sessions; each client that made a
-- reservation has room for its next operation among its entries, and there is room for all reservations among the keys, the puts and the gets
pub record IsKept (keys : KeptKeys) (entries : KeptEntries) (maxima : Maxima) (reserved : List Bool) (reservations len : ℕ) : Type 0 where
  pub limits : IsWithinLimits (reported_by keys.keys entries.all)
  pub count : len ≡ count_of (reported_by keys.keys entries.all)
  pub counted : length entries.names ≡ put_count (reported_by keys.keys entries.all)
  pub sound : AreSound keys.keys entries.all
  pub distinct : AreDistinct keys.keys
  pub few : length keys.keys ≤ len
  pub flags : length reserved ≡ length entries.all
  pub room : (client : ℕ) → slice_index_or reserved client false ≡ true → slice_index_or entries.room client false ≡ true
  pub held : reservations ≡ sum_by flag_count reserved
  pub places : reservations ≤ keys.spare
  pub put_places : reservations ≤ entries.more_puts
  pub get_places : reservations ≤ entries.more_gets
  pub few_names : length entries.names ≤ len
  pub few_gets : length entries.gets ≤ len
  pub get_keys : (number : ℕ) (entry : StoredOp) → slice_get entries.gets number ≡ Some entry → key_number_of entry < length keys.keys
  pub session_maxima : AreSessionMaxima (reported_by keys.keys entries.all) maxima
