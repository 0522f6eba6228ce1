-- Records that are read ahead, borrowed from their bytes.
use Rattle.std.specs.Prelude.{◌<◌, ◌≤◌, ℕ, List, length, drop, slice_index_or, Option, Some, None, Ok, false}
use Rattle.cops_types.specs.declared.format.Format.{Format}
use Rattle.cops_types.specs.declared.op_view.OpView.{OpView}
use Rattle.cops_types.specs.OpViews.{viewed}
use Rattle.cops_wire.specs.Answer.{IsAnswer}
use Rattle.cops_wire.specs.Grammar.{grammar}
use Rattle.cops_wire.specs.Message.{parts}
use Rattle.cops_wire.specs.Records.{record_message}
use Rattle.cops_trace.specs.declared.ahead.RecordPlace.{RecordPlace}
use Rattle.cops_trace.specs.Counts.{ACounts}
use Rattle.cops_trace.specs.Parsing.{FedInto, IsUnderway}
use Rattle.cops_trace.specs.Reading.{Reading}
use Rattle.cops_trace.specs.Text.{ATrace}

-- the bytes have the record of this operation at the record's offset, in this format
abbrev pub IsSeenAt : Format → List ℕ → RecordPlace → OpView → Type 0
IsSeenAt format bytes place op = IsAnswer (grammar format) (drop place.at bytes) (Ok (parts (record_message place.client place.index (viewed op)), place.used))

-- this holds for each of the records
pub record AreSeen (format : Format) (bytes : List ℕ) (places : List RecordPlace) (ops : List OpView) : Type 0 where
  pub few : length places ≤ length ops
  pub each : (k : ℕ) (d : RecordPlace) (e : OpView) → k < length places → IsSeenAt format bytes (slice_index_or places k d) (slice_index_or ops k e)

-- a reader with these counts at this offset, with these bytes as its rest
abbrev pub reading_at : ACounts → ℕ → List ℕ → Reading
reading_at counts at rest = record { counts = Some counts; at = at; ended = false; rest = rest; fault = None }

module _ {S : Type 0} (took : S → ATrace → Type 0) where
  -- the sink took what the reader returned: it has what was read of the same bytes
  pub record GoesOn (from : Option S) (old : Reading) (to : Option S) (new : Reading) : Type 0 where
    pub underway : IsUnderway took to new
    pub fed : (fed : List ℕ) → FedInto took fed from old → FedInto took fed to new
