-- Writing a trace's text while the trace grows.
use Rattle.std.specs.Prelude.{◌≡◌, ℕ, ◌<◌, ◌++◌, List, length, take, Option}
use Rattle.std.specs.Io.KnownBytes.{Appends}
use Rattle.cops_types.specs.Counted.{failures, inner}
use Rattle.cops_types.specs.Failures.{Failed}
use Rattle.cops_trace.specs.Counts.{ACounts, AreCountsOf}
use Rattle.cops_trace.specs.Text.{ARecord, ATrace, IsTrace, beginning, text}
use Rattle.cops_trace.specs.declared.fault.FinishFault.{FinishFault}
use Rattle.cops_trace.specs.declared.fault.FinishFault.TheVariants.{WriteFailed as Stopped}
use Rattle.cops_trace.specs.declared.fault.WriteFault.{WriteFault}
use Rattle.cops_trace.specs.declared.fault.WriteFault.TheVariants.{Memory, WriteFailed}
use Rattle.cops_trace.specs.declared.live.LiveTrace.{LiveTrace}

-- these bytes were written, `written` in all: the head and the records of some trace with these counts
pub record HasBegun (old new : Option (List ℕ)) (bytes : List ℕ) (c : ACounts) (written : ℕ) : Type 0 where
  pub trace : ATrace
  pub is_trace : IsTrace trace
  pub counts : AreCountsOf trace c
  pub bytes_are : bytes ≡ beginning trace
  pub in_all : written ≡ length bytes
  pub appends : Appends old new bytes

-- it wrote the head and the records of some trace to its writer, which has not failed since, and keeps what it wrote
pub record IsLive {W : Type 0} (contents : W → Option (List ℕ)) (l : LiveTrace W) : Type 0 where
  pub wrote : HasBegun (contents (inner l.begun.value)) (contents (inner l.writer.writer)) l.text.items l.writer.counts l.writer.written
  pub heard : failures l.writer.writer ≡ failures l.begun.value

-- the text that it keeps is that of this trace, without the end
pub record IsBegun {W : Type 0} (t : ATrace) (l : LiveTrace W) : Type 0 where
  pub counts : AreCountsOf t l.writer.counts
  pub bytes_are : l.text.items ≡ beginning t

-- it gained these records, in their order
abbrev pub Gains : {W : Type 0} → List ARecord → LiveTrace W → LiveTrace W → Type 0
Gains records old new = (t : ATrace) → IsBegun t old → IsBegun (record { format = t.format; clients = t.clients; records = t.records ++ records }) new

-- a proper prefix of some trace's text, of `written` bytes, was written
pub record IsCutShort (old new : Option (List ℕ)) (written : ℕ) : Type 0 where
  pub trace : ATrace
  pub is_trace : IsTrace trace
  pub fewer : written < length (text trace)
  pub appends : Appends old new (take written (text trace))

-- a proper prefix of a trace's text was written; with `WriteFailed` its length is `written`
abbrev pub IsCutBy : WriteFault → Option (List ℕ) → Option (List ℕ) → Type 0
IsCutBy Memory old new = (written : ℕ) × IsCutShort old new written
IsCutBy (WriteFailed written) old new = IsCutShort old new written

-- the writer failed with `WriteFailed`, and did not with `Memory`
abbrev pub IsHeardBy : WriteFault → ℕ → ℕ → Type 0
IsHeardBy Memory old new = new ≡ old
IsHeardBy (WriteFailed written) old new = Failed old new

-- these bytes are a prefix of the trace's text
abbrev pub IsPrefixOf : List ℕ → ATrace → Type 0
IsPrefixOf bytes t = (rest : List ℕ) × (text t ≡ bytes ++ rest)

-- like `IsCutBy` and `IsHeardBy`, for the faults of `finish`
abbrev pub IsLeftBy : FinishFault → Option (List ℕ) → Option (List ℕ) → Type 0
IsLeftBy (Stopped written) old new = IsCutShort old new written
IsLeftBy _ old new = (written : ℕ) × IsCutShort old new written

abbrev pub IsEndedBy : FinishFault → ℕ → ℕ → Type 0
IsEndedBy (Stopped written) old new = Failed old new
IsEndedBy _ old new = new ≡ old
