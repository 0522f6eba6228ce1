-- The audit of bytes that may be cut, and what it writes.
use Rattle.std.specs.Prelude.{◌≡◌, ◌≢◌, ◌⊎◌, ℕ, List, ◌++◌, codes, decimal, Option, Ok, Err}
use Rattle.std.specs.Io.KnownBytes.{Appends}
use Rattle.cops_types.specs.Texts.{◌⧺◌}
use Rattle.cops_audit.specs.declared.verdict.SoFar.{SoFar}
use Rattle.cops_audit.specs.declared.verdict.SoFar.TheVariants as said
use Rattle.cops_audit.specs.SoFar.{IsSoFar, HasLastingFault}
use Rattle.cops_trace.specs.declared.fault.TraceFault.{TraceFault}
use Rattle.cops_trace.specs.declared.fault.TraceFault.TheVariants.{Cut}
use Rattle.cops_trace.specs.Text.{ATrace, sessions_of}
use Rattle.cops_trace.specs.Answer.{Says, IsCutAfter}
use Rattle.cops_trace.specs.Lines.{fault_line}
use Rattle.cops_audit_commands.specs.declared.audit.Answer.{Answer}
use Rattle.cops_audit_commands.specs.declared.audit.Answer.TheVariants.{Accepted, Refused, Faulty}
use Rattle.cops_audit_commands.specs.Audit.{IsReported}
use Rattle.cops_audit_commands.specs.Convergent.{EncodesConvergent}

-- the answer for a verdict so far: a history with pending reads may still come to be accepted
abbrev pub answer_so_far : SoFar → Answer
answer_so_far said.Clean = Accepted
answer_so_far (said.Waiting n) = Accepted
answer_so_far said.Refused = Refused

-- two lines: where the bytes are cut, and the verdict so far
abbrev pub cut_text : ℕ → SoFar → List ℕ
cut_text offset said.Clean = codes "cut at " ⧺ decimal offset ⧺ codes "\nso far: clean\n"
cut_text offset (said.Waiting n) = codes "cut at " ⧺ decimal offset ⧺ codes "\nso far: waiting " ⧺ decimal n ⧺ codes "\n"
cut_text offset said.Refused = codes "cut at " ⧺ decimal offset ⧺ codes "\nso far: refused\n"

-- the bytes are cut at this place, and this is the verdict so far on the sessions that the whole records before it have
pub record IsCutWith (bytes : List ℕ) (offset : ℕ) (so_far : SoFar) : Type 0 where
  pub trace : ATrace
  pub is_cut : IsCutAfter bytes trace offset
  pub is_so_far : IsSoFar (sessions_of trace) so_far

-- For bytes that are cut: where, and the verdict so far. For all others what the audit says: the report, where they are a trace's text, otherwise the
-- line of their first fault.
abbrev pub SaysSoFar : List ℕ → Answer → List ℕ → Type 0
SaysSoFar bytes answer reported =
    ((offset : ℕ) × (so_far : SoFar) × IsCutWith bytes offset so_far × (answer ≡ answer_so_far so_far) × (reported ≡ cut_text offset so_far))
    ⊎ ((t : ATrace) × Says bytes (Ok t) × IsReported t answer reported)
    ⊎ ((e : TraceFault) × ((offset : ℕ) → e ≢ Cut offset) × Says bytes (Err e) × (answer ≡ Faulty) × (reported ≡ fault_line e))

-- the bytes decode to one history, which is causally convergent, or they are cut, and the whole records before the cut have no fault that no further
-- operation removes
abbrev pub IsSoundSoFar : List ℕ → Type 0
IsSoundSoFar bytes = EncodesConvergent bytes ⊎ ((t : ATrace) × (offset : ℕ) × IsCutAfter bytes t offset × (¬ HasLastingFault (sessions_of t)))

-- the writer gained the whole text
abbrev pub WritesSoFar : List ℕ → Answer → Option (List ℕ) → Option (List ℕ) → Type 0
WritesSoFar bytes answer old new = (reported : List ℕ) × SaysSoFar bytes answer reported × Appends old new reported

-- the writer gained a prefix of the text
abbrev pub WritesPrefixSoFar : List ℕ → Option (List ℕ) → Option (List ℕ) → Type 0
WritesPrefixSoFar bytes old new = (answer : Answer) × (front : List ℕ) × (rest : List ℕ) × SaysSoFar bytes answer (front ++ rest) × Appends old new front
