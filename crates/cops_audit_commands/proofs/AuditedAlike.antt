-- A trace and the same trace in format 2 have the same audit.
use Rattle.std.proofs.Common.{◌≡◌, ℕ, List, Option, Some, None, IfSome, Result, Ok, Err, IfOk, refl, sym, subst, inl, inr}
use Rattle.cops_trace.specs.Text.{ATrace, text}
use Rattle.cops_trace.specs.Converting.{Converts, IsConverted, SayOne, in_format_2}
use Rattle.cops_trace.proofs.Keeping.{trace_in_2}
use Rattle.cops_audit_commands.specs.Audit.{AuditSays, IsReported}
use Rattle.cops_audit_commands.specs.Convert.{AreAuditedAlike, ConvertsAlike}
use Rattle.cops_audit_commands.specs.declared.audit.Answer.{Answer}

reported_in_2 : (t : ATrace) (answer : Answer) (reported : List ℕ) → IsReported t answer reported → IsReported (in_format_2 t) answer reported
reported_in_2 t answer reported h = record { verdict = h.verdict; is_report = h.is_report; answer_is = h.answer_is }

pub audited_alike : (bytes : List ℕ) (t : ATrace) → IsConverted bytes t → SayOne bytes → AreAuditedAlike bytes (text t)
audited_alike bytes t is one answer reported says = elim says [
  | inl of_trace ↦
      let both = one (Ok of_trace.0) (Ok is.0) of_trace.1 is.1 in
      let same : of_trace.0 ≡ is.0 = cc in
      let reported_of = reported_in_2 is.0 answer reported (subst (λ (u : ATrace). IsReported u answer reported) same of_trace.2) in
      subst (λ (u : ATrace). AuditSays (text u) answer reported) (sym is.2) (inl (in_format_2 is.0, (trace_in_2 is.0 is.1.0, refl), reported_of))
  | inr of_fault ↦ let not = one (Err of_fault.0) (Ok is.0) of_fault.1 is.1 in absurd cc
]

-- so converting a trace's bytes writes bytes with the same audit
pub converts_alike : {E : Type 0} (r : Result ℕ E) (read old new : Option (List ℕ)) → IfOk r (λ count. IfSome read (λ bytes. Converts bytes count old new)) → IfOk r (λ _. IfSome read SayOne)
    → IfOk r (λ count. IfSome read (λ bytes. ConvertsAlike bytes count old new))
converts_alike (Ok count) None old new h one = tt
converts_alike (Ok count) (Some bytes) old new h one = (h.0, h.1, h.2, h.3, audited_alike bytes h.0 h.1 one)
converts_alike (Err e) read old new h one = tt
