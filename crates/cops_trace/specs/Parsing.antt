-- The state of parsing a trace's text that comes in pieces.
use Rattle.std.specs.Prelude.{◌≡◌, ◌≢◌, ℕ, ◌+◌, ◌⊎◌, Bool, true, false, List, [], ◌++◌, length, drop, Option, Some, None, Result, Ok, Err, option_map}
use Rattle.cops_types.specs.Operations.{operation_of}
use Rattle.cops_wire.specs.Answer.{IsBytes}
use Rattle.cops_trace.specs.declared.fault.TraceFault.{TraceFault}
use Rattle.cops_trace.specs.declared.fault.TraceFault.TheVariants.{Memory, ReadFailed, Cut, BytesAfterEnd}
use Rattle.cops_trace.specs.declared.found.Item.{Item}
use Rattle.cops_trace.specs.declared.found.Item.TheVariants.{Head, Op as Entry, End}
use Rattle.cops_trace.specs.declared.found.Found.TheVariants.{Gives, Waits, Fails}
use Rattle.cops_trace.specs.Text.{ATrace, IsTrace, turn, text}
use Rattle.cops_trace.specs.Answer.{Begins, text_before, HasFault}
use Rattle.cops_trace.specs.Kept.{MayHave, grown}
use Rattle.cops_trace.specs.Counts.{ACounts, AreCountsOf}
use Rattle.cops_trace.specs.Next.{Progress, Stands}
use Rattle.cops_trace.specs.Reading.{Reading}
pub use Rattle.cops_trace.specs.Reading.{is_end}

-- the progress of a text after this trace's records, at this offset
abbrev pub progress_with : ℕ → ATrace → Progress
progress_with at t = record { format = t.format; clients = t.clients; turn = λ client. turn client t.records; total = length t.records; at = at }

-- the state of parsing: the trace of the head and the records so far, the number of bytes read, whether the end came, and the rest of the bytes
pub record ParseState : Type 0 where
  pub begun : Option ATrace
  pub at : ℕ
  pub ended : Bool
  pub rest : List ℕ

abbrev pub progress_in : ParseState → Option Progress
progress_in s = option_map (progress_with s.at) s.begun

-- the trace with one more item
abbrev pub with_item : Item → Option ATrace → Option ATrace
with_item (Head format clients) begun = Some (record { format = format; clients = clients; records = [] })
with_item (Entry client op) begun = option_map (λ t. grown t (record { client = client; op = operation_of op })) begun
with_item End begun = begun

-- the state after an item of `used` bytes
abbrev pub after : Item → ℕ → ParseState → ParseState
after item used s = record { begun = with_item item s.begun; at = s.at + used; ended = is_end item; rest = drop used s.rest }

-- the trace so far may have a record's operation as its next
abbrev pub ItemHasRoom : Item → Option ATrace → Type 0
ItemHasRoom (Head format clients) begun = Unit {0}
ItemHasRoom (Entry client op) None = ⊥
ItemHasRoom (Entry client op) (Some t) = MayHave t (record { client = client; op = operation_of op })
ItemHasRoom End begun = Unit {0}

-- the counts are those of the trace so far
abbrev pub IsBegunAs : Option ATrace → Option ACounts → Type 0
IsBegunAs None None = Unit {0}
IsBegunAs (Some t) (Some c) = AreCountsOf t c
IsBegunAs _ _ = ⊥

-- These bytes are what was read in this state, followed by its rest.
abbrev pub FedTo : List ℕ → ParseState → Bool → Type 0
FedTo fed s false = Begins fed s.begun s.rest × (s.at ≡ length (text_before s.begun))
FedTo fed s true = (t : ATrace) × (s.begun ≡ Some t) × IsTrace t × (fed ≡ text t ++ s.rest) × (s.at ≡ length (text t))

pub record Fed (fed : List ℕ) (s : ParseState) : Type 0 where
  pub fits : IsBytes fed
  pub state : FedTo fed s s.ended

-- the rest has no whole item, and nothing after the end
abbrev pub IsSettledAt : Bool → ParseState → Type 0
IsSettledAt false s = Stands (progress_in s) s.rest Waits
IsSettledAt true s = s.rest ≡ []

abbrev pub IsSettled : ParseState → Type 0
IsSettled s = IsSettledAt s.ended s

-- the rest begins with this fault; after the end, a byte is a fault
abbrev pub FailsAt : Bool → ParseState → TraceFault → Type 0
FailsAt false s e = Stands (progress_in s) s.rest (Fails e)
FailsAt true s e = (s.rest ≢ []) × (e ≡ BytesAfterEnd s.at)

-- the result of a step, and the state after it: it took an item, there is no whole one, or there is a fault
abbrev pub StepGives : ParseState → Result Bool TraceFault → ParseState → Type 0
StepGives old (Ok true) new = (old.ended ≡ false) × ((item : Item) × (used : ℕ) × Stands (progress_in old) old.rest (Gives item used) × (new ≡ after item used old))
StepGives old (Ok false) new = IsSettled old × (new ≡ old)
StepGives old (Err e) new = (e ≡ Memory) ⊎ FailsAt old.ended old e

-- there is a fault whatever bytes follow, so it is no cut
pub record HasFailed (fed : List ℕ) (e : TraceFault) : Type 0 where
  pub no_cut : (offset : ℕ) → e ≢ Cut offset
  pub device : e ≢ ReadFailed
  pub stays : (more : List ℕ) → HasFault (fed ++ more) e

-- memory ran out, or there is such a fault
abbrev pub Stops : List ℕ → TraceFault → Type 0
Stops fed e = (e ≡ Memory) ⊎ HasFailed fed e

-- the state of parsing with a reader that returned the head and the records of a trace
abbrev pub stage_of : Option ATrace → Reading → ParseState
stage_of begun r = record { begun = begun; at = r.at; ended = r.ended; rest = r.rest }

-- ---- with a sink; `took` says which trace a sink took

module _ {S : Type 0} (took : S → ATrace → Type 0) where
  -- the sink took the trace, or both are still to come
  abbrev pub IsTakenAs : Option S → Option ATrace → Type 0
  IsTakenAs None None = Unit {0}
  IsTakenAs (Some sink) (Some t) = took sink t
  IsTakenAs _ _ = ⊥

  -- the sink took what the reader returned, a trace
  pub record IsUnderway (begun : Option S) (r : Reading) : Type 0 where
    pub trace : Option ATrace
    pub taken : IsTakenAs begun trace
    pub counts : IsBegunAs trace r.counts

  -- and that is what was read of these bytes
  pub record FedInto (fed : List ℕ) (begun : Option S) (r : Reading) : Type 0 where
    pub underway : IsUnderway begun r
    pub state : Fed fed (stage_of underway.trace r)

  -- and the rest has no whole item
  pub record SettledInto (fed : List ℕ) (begun : Option S) (r : Reading) : Type 0 where
    pub into : FedInto fed begun r
    pub settled : IsSettled (stage_of into.underway.trace r)

  -- the result of a step, and the state after it
  abbrev pub StepsInto : ParseState → Result Bool TraceFault → Option S → Reading → Type 0
  StepsInto old (Ok went) begun r = (new : IsUnderway begun r) × StepGives old (Ok went) (stage_of new.trace r)
  StepsInto old (Err e) begun r = (e ≡ Memory) ⊎ FailsAt old.ended old e

  -- all whole items were taken, or there is a fault
  abbrev pub AdvancesInto : List ℕ → Result (Unit {0}) TraceFault → Option S → Reading → Type 0
  AdvancesInto fed (Ok u) begun r = SettledInto fed begun r
  AdvancesInto fed (Err e) begun r = Stops fed e
