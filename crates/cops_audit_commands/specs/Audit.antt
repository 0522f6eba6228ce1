-- What an audit says of bytes, and what it writes.
use Rattle.std.specs.Prelude.{◌≡◌, ◌⊎◌, ℕ, List, ◌++◌, Option, Ok, Err}
use Rattle.std.specs.Io.KnownBytes.{Appends}
use Rattle.cops_audit.specs.declared.verdict.Verdict.{Verdict}
use Rattle.cops_audit.specs.declared.verdict.Verdict.TheVariants as verdict
use Rattle.cops_command.specs.declared.status.Status.{Status}
use Rattle.cops_command.specs.declared.status.Status.TheVariants as status
use Rattle.cops_report.specs.Reported.{IsReportOf}
use Rattle.cops_trace.specs.declared.fault.TraceFault.{TraceFault}
use Rattle.cops_trace.specs.Text.{ATrace, sessions_of}
use Rattle.cops_trace.specs.Answer.{Says}
use Rattle.cops_trace.specs.Lines.{fault_line}
use Rattle.cops_audit_commands.specs.declared.audit.Answer.{Answer}
use Rattle.cops_audit_commands.specs.declared.audit.Answer.TheVariants.{Accepted, Refused, Faulty}

-- the answer for a verdict
abbrev pub answer_of : Verdict → Answer
answer_of (verdict.Accepted puts) = Accepted
answer_of (verdict.Refused faults) = Refused

-- the status with which a command ends for an answer
abbrev pub answer_status : Answer → Status
answer_status Accepted = status.Accepted
answer_status Refused = status.Refused
answer_status Faulty = status.Faulty

-- for a trace: the report of the verdict on its sessions
pub record IsReported (t : ATrace) (answer : Answer) (reported : List ℕ) : Type 0 where
  pub verdict : Verdict
  pub is_report : IsReportOf (sessions_of t) verdict reported
  pub answer_is : answer ≡ answer_of verdict

-- for bytes: the report, where they are a trace's text, otherwise the line of their first fault
abbrev pub AuditSays : List ℕ → Answer → List ℕ → Type 0
AuditSays bytes answer reported =
    ((t : ATrace) × Says bytes (Ok t) × IsReported t answer reported)
    ⊎ ((e : TraceFault) × Says bytes (Err e) × (answer ≡ Faulty) × (reported ≡ fault_line e))

-- the writer gained the whole text
abbrev pub Writes : List ℕ → Answer → Option (List ℕ) → Option (List ℕ) → Type 0
Writes bytes answer old new = (reported : List ℕ) × AuditSays bytes answer reported × Appends old new reported

-- the writer gained a prefix of the text
abbrev pub WritesPrefix : List ℕ → Option (List ℕ) → Option (List ℕ) → Type 0
WritesPrefix bytes old new = (answer : Answer) × (front : List ℕ) × (rest : List ℕ) × AuditSays bytes answer (front ++ rest) × Appends old new front
