-- The audit of a trace that was converted.
use Rattle.std.specs.Prelude.{◌≡◌, ℕ, List, codes, decimal, length, Option}
use Rattle.std.specs.Io.KnownBytes.{Appends}
use Rattle.cops_types.specs.Texts.{◌⧺◌}
use Rattle.cops_trace.specs.Text.{ATrace, text}
use Rattle.cops_trace.specs.Converting.{IsConverted}
use Rattle.cops_audit_commands.specs.declared.audit.Answer.{Answer}
use Rattle.cops_audit_commands.specs.Audit.{AuditSays}

-- each answer and text that the audit has for `bytes` it also has for `others`
abbrev pub AreAuditedAlike : List ℕ → List ℕ → Type 0
AreAuditedAlike bytes others = (answer : Answer) (reported : List ℕ) → AuditSays bytes answer reported → AuditSays others answer reported

-- the bytes are the text of a trace of `count` records, and the writer gained the text of the same trace in format 2, whose audit has the same answer
-- and text
abbrev pub ConvertsAlike : List ℕ → ℕ → Option (List ℕ) → Option (List ℕ) → Type 0
ConvertsAlike bytes count old new =
    (t : ATrace) × IsConverted bytes t × (count ≡ length t.records) × Appends old new (text t) × AreAuditedAlike bytes (text t)

-- the line that says how many operations were converted
abbrev pub converted_line : ℕ → List ℕ
converted_line operations = codes "converted: " ⧺ decimal operations ⧺ codes " operations\n"
