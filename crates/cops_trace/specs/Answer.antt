-- What bytes are: the text of a trace, or a text with a first fault.
use Rattle.std.specs.Prelude.{◌≡◌, ◌≢◌, ℕ, ◌⊎◌, List, [], ◌++◌, length, Option, Some, None, IfSome, Result, Ok, Err, option_map, unwrap_or}
use Rattle.cops_types.specs.declared.format.Format.TheVariants.{One}
use Rattle.cops_trace.specs.declared.fault.TraceFault.{TraceFault}
use Rattle.cops_trace.specs.declared.fault.TraceFault.TheVariants.{Memory, ReadFailed, Cut, BytesAfterEnd}
use Rattle.cops_trace.specs.declared.found.Found.TheVariants.{Waits, Fails}
use Rattle.cops_trace.specs.declared.trace.Partial.{Partial}
use Rattle.cops_trace.specs.declared.sink.SinkTaken.{SinkTaken}
use Rattle.cops_wire.specs.Answer.{IsBytes}
use Rattle.cops_trace.specs.Text.{ATrace, IsTrace, turn, beginning, text}
use Rattle.cops_trace.specs.Next.{Progress, Stands}

-- the progress of a text after the head and the records of a trace
abbrev pub progress_of : ATrace → Progress
progress_of t = record {
  format = t.format;
  clients = t.clients;
  turn = λ client. turn client t.records;
  total = length t.records;
  at = length (beginning t);
}

-- a prefix of a text: nothing, or the head and the records of a trace
abbrev pub text_before : Option ATrace → List ℕ
text_before None = []
text_before (Some t) = beginning t

-- the progress of a text after that prefix
abbrev pub progress_at : Option ATrace → Option Progress
progress_at = option_map progress_of

-- the bytes are such a prefix and then this rest
pub record Begins (bytes : List ℕ) (begun : Option ATrace) (rest : List ℕ) : Type 0 where
  pub is_trace : IfSome begun IsTrace
  pub parts : bytes ≡ text_before begun ++ rest

-- after a prefix of a text comes a frame with this fault
pub record HasWrongFrame (bytes : List ℕ) (e : TraceFault) : Type 0 where
  pub begun : Option ATrace
  pub rest : List ℕ
  pub begins : Begins bytes begun rest
  pub stands : Stands (progress_at begun) rest (Fails e)

-- the bytes end before the next frame is whole, and so before the end
pub record IsCut (bytes : List ℕ) (e : TraceFault) : Type 0 where
  pub begun : Option ATrace
  pub rest : List ℕ
  pub begins : Begins bytes begun rest
  pub stands : Stands (progress_at begun) rest Waits
  pub fault_is : e ≡ Cut (length (text_before begun))

-- the bytes are cut at this offset, and before it come the head and the records of this trace, or nothing
pub record IsCutAfter (bytes : List ℕ) (t : ATrace) (offset : ℕ) : Type 0 where
  pub begun : Option ATrace
  pub rest : List ℕ
  pub begins : Begins bytes begun rest
  pub stands : Stands (progress_at begun) rest Waits
  pub place : offset ≡ length (text_before begun)
  pub trace_is : t ≡ unwrap_or begun (record { format = One; clients = 0; records = [] })

-- there are bytes after a whole text
pub record HasMore (bytes : List ℕ) (e : TraceFault) : Type 0 where
  pub trace : ATrace
  pub rest : List ℕ
  pub is_trace : IsTrace trace
  pub parts : bytes ≡ text trace ++ rest
  pub more : rest ≢ []
  pub fault_is : e ≡ BytesAfterEnd (length (text trace))

-- the first fault of the bytes, with its offset
abbrev pub HasFault : List ℕ → TraceFault → Type 0
HasFault bytes e = HasWrongFrame bytes e ⊎ IsCut bytes e ⊎ HasMore bytes e

-- the bytes are this trace's text, or this is their first fault
abbrev pub Says : List ℕ → Result ATrace TraceFault → Type 0
Says bytes (Ok t) = IsTrace t × (bytes ≡ text t)
Says bytes (Err e) = HasFault bytes e

-- the result of a reader is right for the bytes, unless memory or the device failed
abbrev pub Agrees : List ℕ → Result ATrace TraceFault → Type 0
Agrees bytes (Ok t) = Says bytes (Ok t)
Agrees bytes (Err e) = (e ≡ Memory) ⊎ (e ≡ ReadFailed) ⊎ HasFault bytes e

-- the reader's result is this one, unless memory or the device failed
abbrev pub Gives : Result ATrace TraceFault → Result ATrace TraceFault → Type 0
Gives answer (Ok t) = answer ≡ Ok t
Gives answer (Err e) = (e ≡ Memory) ⊎ (e ≡ ReadFailed) ⊎ (answer ≡ Err e)

-- the bytes are this trace's text, or are cut at this offset after its whole records
abbrev pub BeginsAs : List ℕ → ATrace → Option ℕ → Type 0
BeginsAs bytes t None = Says bytes (Ok t)
BeginsAs bytes t (Some offset) = IsCutAfter bytes t offset

-- the result of reading so far is right for the bytes: a cut is no fault
abbrev pub AgreesSoFar : List ℕ → Result Partial TraceFault → Type 0
AgreesSoFar bytes (Ok p) = BeginsAs bytes p.trace p.cut
AgreesSoFar bytes (Err e) = (e ≡ Memory) ⊎ (e ≡ ReadFailed) ⊎ (HasFault bytes e × ((offset : ℕ) → e ≢ Cut offset))

-- The sink took the records of these bytes: all of them, or the whole ones before a cut. `took` says which trace a sink took.
pub record TakesFrom {S : Type 0} (took : S → ATrace → Type 0) (bytes : List ℕ) (taken : SinkTaken S) : Type 0 where
  pub bytes_fit : IsBytes bytes
  pub trace : ATrace
  pub took_it : took taken.sink trace
  pub begins : BeginsAs bytes trace taken.cut

-- the result of reading into a sink is right for the bytes: a cut is no fault
abbrev pub AgreesInto : {S : Type 0} → (S → ATrace → Type 0) → List ℕ → Result (SinkTaken S) TraceFault → Type 0
AgreesInto took bytes (Ok taken) = TakesFrom took bytes taken
AgreesInto took bytes (Err e) = (e ≡ Memory) ⊎ (e ≡ ReadFailed) ⊎ (HasFault bytes e × ((offset : ℕ) → e ≢ Cut offset))
