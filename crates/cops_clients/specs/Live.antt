-- What the writer has when a run ends whose trace is written to it.
use Rattle.std.specs.Prelude.{◌≡◌, ℕ, ◌+◌, max, min, List, [], ◌∷◌, Option, Some, slice_get, map, take}
use Rattle.std.specs.Global.{Vec}
use Rattle.cops_types.specs.Failures.{Failed}
use Rattle.cops_types.specs.Format.{IsInFormat}
use Rattle.cops_types.specs.Operations.{operation_of}
use Rattle.cops_trace.specs.Counts.{HasTurn}
use Rattle.cops_trace.specs.Live.{Gains, IsCutShort}
use Rattle.cops_trace.specs.Text.{record_of}
use Rattle.cops_trace.specs.declared.live.LiveTrace.{LiveTrace}
use Rattle.cops_trace.specs.declared.record.Record.{Record}
use Rattle.cops_node.specs.declared.entry.Entry.{Entry}
use Rattle.cops_clients.specs.declared.fault.RunFault.{RunFault}
use Rattle.cops_clients.specs.declared.fault.RunFault.TheVariants.{Memory, Untied, WriteFailed}

-- a proper prefix of a trace's text was written; where a write failed, the fault has its length
abbrev pub IsCutFor : RunFault → Option (List ℕ) → Option (List ℕ) → Type 0
IsCutFor (WriteFailed written) old new = IsCutShort old new written
IsCutFor _ old new = (written : ℕ) × IsCutShort old new written

-- the writer failed where the fault is `WriteFailed`, and it did not where the fault is `Memory` or `Untied`
abbrev pub IsHeardFor : RunFault → ℕ → ℕ → Type 0
IsHeardFor (WriteFailed written) old new = Failed old new
IsHeardFor Memory old new = new ≡ old
IsHeardFor (Untied ticket) old new = new ≡ old
IsHeardFor _ old new = Unit {0}

-- the record's client may have one more record, and its operation is in the format
abbrev pub MayCome : {W : Type 0} → Record → LiveTrace W → Type 0
MayCome r live = HasTurn live.writer.counts r.client × IsInFormat live.writer.counts.format (operation_of r.op)

-- the trace gained these records, each once and in order, up to the first that may not come next
pub record Follows {W : Type 0} (records : List Record) (old new : LiveTrace W) : Type 0 where
  pub count : ℕ
  pub gains : Gains (map record_of (take count records)) old new
  pub full : (r : Record) → slice_get records count ≡ Some r → MayCome r new → ⊥

-- the greater of `ticket` and one more than the greatest ticket of these entries, capped at the greatest number of 64 bits
abbrev pub above_entries : ℕ → List Entry → ℕ
above_entries ticket [] = ticket
above_entries ticket (e ∷ es) = above_entries (max ticket (min (e.ticket + 1) 18446744073709551615)) es

-- the greater of `ticket` and one more than the greatest ticket of the entries of these books
abbrev pub ticket_above : ℕ → List (Vec Entry) → ℕ
ticket_above ticket [] = ticket
ticket_above ticket (book ∷ books) = ticket_above (above_entries ticket book.items) books
