-- What a writer of a trace's text writes, frame by frame or piece by piece.
use Rattle.std.specs.Prelude.{◌≡◌, ℕ, ◌+◌, ◌<◌, ◌≤◌, List, ◌++◌, length, min, take, Option}
use Rattle.std.specs.Io.KnownBytes.{Appends, Keeps}
use Rattle.cops_types.specs.declared.format.Format.{Format}
use Rattle.cops_types.specs.Format.{number_of}
use Rattle.cops_types.specs.Histories.{Operation}
use Rattle.cops_wire.specs.Message.{encoded}
use Rattle.cops_wire.specs.Records.{record_message}
use Rattle.cops_wire.specs.declared.message.Message.TheVariants.{TraceEnd, TraceHead}
use Rattle.cops_trace.specs.Counts.{ACounts, AreCountsOf, next_of}
use Rattle.cops_trace.specs.Text.{ATrace}
use Rattle.cops_trace.specs.declared.fault.WriteFault.{WriteFault}
use Rattle.cops_trace.specs.declared.fault.WriteFault.TheVariants.{Memory, WriteFailed}

-- the head for a format and a number of clients
abbrev pub head_frame : Format → ℕ → List ℕ
head_frame format clients = encoded (TraceHead (number_of format) clients)

-- the next record of a client
abbrev pub record_frame : ACounts → ℕ → Operation → List ℕ
record_frame c client op = encoded (record_message client (next_of c client) op)

-- the end, which counts the records
abbrev pub end_frame : ACounts → List ℕ
end_frame c = encoded (TraceEnd c.total)

-- the number of bytes written in all, which stops at the greatest 64-bit number
abbrev pub more_written : ℕ → ℕ → ℕ
more_written before count = min (before + count) 18446744073709551615

-- a frame was not written: nothing of it if memory ran out, and a proper prefix of it if a write failed; the fault has the number of bytes written in
-- all
abbrev pub IsUnwritten : List ℕ → ℕ → Option (List ℕ) → Option (List ℕ) → WriteFault → Type 0
IsUnwritten frame before old new Memory = Keeps old new
IsUnwritten frame before old new (WriteFailed written) = (count : ℕ) × (count < length frame) × (written ≡ more_written before count) × Appends old new (take count frame)

-- the trace with its first n records alone
abbrev pub prefix : ℕ → ATrace → ATrace
prefix n t = record { format = t.format; clients = t.clients; records = take n t.records }

-- the counts are those of some first records of a trace
pub record CountPrefix (t : ATrace) (c : ACounts) : Type 0 where
  pub inside : c.total ≤ length t.records
  pub counts : AreCountsOf (prefix c.total t) c

-- this number of the bytes went out, the first ones, and the others are left
pub record HasSent (old new : Option (List ℕ)) (bytes left : List ℕ) (written : ℕ) : Type 0 where
  pub done : List ℕ
  pub bytes_are : bytes ≡ done ++ left
  pub in_all : written ≡ length done
  pub appends : Appends old new done

-- the first bytes of a text went out, fewer than all, and the fault says how many
abbrev pub IsCutAt : List ℕ → Option (List ℕ) → Option (List ℕ) → WriteFault → Type 0
IsCutAt text old new e = (n : ℕ) × (e ≡ WriteFailed n) × (n < length text) × Appends old new (take n text)
