-- Converting a trace to format 2.
use Rattle.std.specs.Prelude.{◌≡◌, ◌<◌, ℕ, List, length, take, Option, IfSome, Result, Ok, Err}
use Rattle.std.specs.Io.KnownBytes.{Appends, Keeps}
use Rattle.cops_types.specs.Failures.{Failed}
use Rattle.cops_types.specs.declared.format.Format.TheVariants.{Two}
use Rattle.cops_trace.specs.declared.fault.TraceFault.{TraceFault}
use Rattle.cops_trace.specs.declared.fault.TraceFault.TheVariants as reading
use Rattle.cops_trace.specs.declared.fault.ConvertFault.{ConvertFault}
use Rattle.cops_trace.specs.declared.fault.ConvertFault.TheVariants.{Memory, Faulty, ReadFailed, WriteFailed}
use Rattle.cops_trace.specs.Text.{ATrace, text}
use Rattle.cops_trace.specs.Answer.{Says}

-- the trace of format 2 with the same clients and records
abbrev pub in_format_2 : ATrace → ATrace
in_format_2 t = record { format = Two; clients = t.clients; records = t.records }

-- the bytes are the text of a trace, and `new` is that trace in format 2
abbrev pub IsConverted : List ℕ → ATrace → Type 0
IsConverted bytes new = (t : ATrace) × Says bytes (Ok t) × (new ≡ in_format_2 t)

-- the bytes are the text of only one trace, or have only one first fault
abbrev pub SayOne : List ℕ → Type 0
SayOne bytes = (a b : Result ATrace TraceFault) → Says bytes a → Says bytes b → a ≡ b

-- the text of the converted trace, which has `count` records, was written
abbrev pub Converts : List ℕ → ℕ → Option (List ℕ) → Option (List ℕ) → Type 0
Converts bytes count old new = (t : ATrace) × IsConverted bytes t × (count ≡ length t.records) × Appends old new (text t)

-- a proper prefix of a trace's text, of `count` bytes, was written
abbrev pub AppendsPrefix : ATrace → ℕ → Option (List ℕ) → Option (List ℕ) → Type 0
AppendsPrefix t count old new = (count < length (text t)) × Appends old new (take count (text t))

-- a proper prefix of the converted trace's text, of `count` bytes, was written
abbrev pub ConvertsPrefix : List ℕ → ℕ → Option (List ℕ) → Option (List ℕ) → Type 0
ConvertsPrefix bytes count old new = (t : ATrace) × IsConverted bytes t × AppendsPrefix t count old new

-- the fault of the conversion for a fault of reading
abbrev pub fault_of_reading : TraceFault → ConvertFault
fault_of_reading reading.Memory = Memory
fault_of_reading reading.ReadFailed = ReadFailed
fault_of_reading fault = Faulty fault

-- `Faulty` has the bytes' first fault
abbrev pub IsFaultOf : List ℕ → ConvertFault → Type 0
IsFaultOf bytes (Faulty fault) = Says bytes (Err fault)
IsFaultOf bytes _ = Unit {0}

-- what a failed write of a trace leaves: nothing if memory ran out, and a proper prefix of the text if a write failed
abbrev pub IsUnwrittenAt : ATrace → ConvertFault → Option (List ℕ) → Option (List ℕ) → Type 0
IsUnwrittenAt t Memory old new = Keeps old new
IsUnwrittenAt t (WriteFailed count) old new = AppendsPrefix t count old new
IsUnwrittenAt t _ old new = ⊥

-- a fault leaves the writer as it was, except if a write failed
abbrev pub IsLeftAt : Option (List ℕ) → ConvertFault → Option (List ℕ) → Option (List ℕ) → Type 0
IsLeftAt read (WriteFailed count) old new = IfSome read (λ bytes. ConvertsPrefix bytes count old new)
IsLeftAt read _ old new = Keeps old new

-- `WriteFailed` is returned exactly if the writer failed
abbrev pub HasHeard : ConvertFault → ℕ → ℕ → Type 0
HasHeard (WriteFailed count) old new = Failed old new
HasHeard _ old new = new ≡ old
