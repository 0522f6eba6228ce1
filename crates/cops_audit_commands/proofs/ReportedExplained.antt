-- What answers mean where faults are explained.
use Rattle.std.proofs.Common.{◌≡◌, ℕ, List, Vec, Global, Option, Some, None, Result, Ok, Err, refl, subst, inl, inr}
use Rattle.std.specs.Prelude.{IfOk, IfSome}
use Rattle.cops_audit.specs.Verdicts.{IsVerdict}
use Rattle.cops_audit.specs.declared.verdict.Verdict.{Verdict}
use Rattle.cops_audit.specs.declared.verdict.Verdict.TheVariants as verdict
use Rattle.cops_types.specs.declared.selection.Selection.{Selection}
use Rattle.cops_explain.specs.declared.naming.Naming.TheVariants.{Trace}
use Rattle.cops_report.specs.Reports.{accepted_line}
use Rattle.cops_types.specs.Counts.{count_of, put_count}
use Rattle.cops_trace.specs.Answer.{Says}
use Rattle.cops_trace.specs.Text.{ATrace, sessions_of}
use Rattle.cops_audit_commands.specs.Audit.{AuditSays, IsReported, answer_of}
use Rattle.cops_audit_commands.specs.Convergent.{EncodesConvergent}
use Rattle.cops_audit_commands.specs.Explain.{ExplainSays, IsDrawing, IsExplanation, PictureSays}
use Rattle.cops_audit_commands.specs.declared.audit.Answer.{Answer}
use Rattle.cops_audit_commands.specs.declared.explain.Request.{Request}
use Rattle.cops_audit_commands.specs.declared.audit.Answer.TheVariants.{Accepted}
use Rattle.cops_audit_commands.proofs.ReportedText.{accepted_is_convergent}

-- a trace whose explanation is accepted has an accepted report
as_reported : (t : ATrace) (v : Verdict) → Accepted ≡ answer_of v → IsVerdict (sessions_of t) v → (text : List ℕ) × IsReported t Accepted text
as_reported t (verdict.Accepted puts) is v =
    (accepted_line (count_of (sessions_of t)) (put_count (sessions_of t)), record { verdict = verdict.Accepted puts; is_report = record { is_verdict = v; is_report = refl }; answer_is = is })
as_reported t (verdict.Refused faults) is v = absurd cc

accepted_is_reported : (request : Request) (bytes reported : List ℕ) → ExplainSays request bytes Accepted reported → (text : List ℕ) × AuditSays bytes Accepted text
accepted_is_reported request bytes reported (inl (t, says, w)) = let report = as_reported t w.verdict w.answer_is w.is_verdict in (report.0, inl (t, says, report.1))
accepted_is_reported request bytes reported (inr (e, says, is, line)) = absurd cc

pub accepted_explained : (Agreeing : List ℕ → Type 0) (request : Request) (a : Option (List ℕ)) (answer : Answer) (reported : List ℕ) → IfSome a Agreeing
    → ((bytes : List ℕ) → Agreeing bytes → ExplainSays request bytes answer reported) → answer ≡ Accepted → IfSome a EncodesConvergent
accepted_explained Agreeing request None answer reported agrees says is = tt
accepted_explained Agreeing request (Some u) answer reported agrees says is =
    let report = accepted_is_reported request u reported (subst (λ (x : Answer). ExplainSays request u x reported) is (says u agrees)) in
    accepted_is_convergent u report.0 report.1

-- the explanation of a trace is the explanation of its text
pub explained_says : {A E : Type 0} (request : Request) (bytes : List ℕ) (t : ATrace) (answer : A → Answer) (text : A → List ℕ) (r : Result A E) → Says bytes (Ok t)
    → IfOk r (λ reported. IsExplanation t Trace request (answer reported) (text reported)) → IfOk r (λ reported. ExplainSays request bytes (answer reported) (text reported))
explained_says request bytes t answer text (Err e) says is = tt
explained_says request bytes t answer text (Ok reported) says is = inl (t, says, is)

-- and so is its picture
pub drawing_says : {A E : Type 0} (asked : Selection) (bytes : List ℕ) (t : ATrace) (picture : A → Option (Vec ℕ Global)) (r : Result A E) → Says bytes (Ok t)
    → IfOk r (λ reported. IsDrawing t Trace asked (picture reported)) → IfOk r (λ reported. PictureSays asked bytes (picture reported))
drawing_says asked bytes t picture (Err e) says is = tt
drawing_says asked bytes t picture (Ok reported) says is = inl (t, says, is)

pub picture_reported : (Agreeing : List ℕ → Type 0) (asked : Selection) (a : Option (List ℕ)) (picture : Option (Vec ℕ Global)) → IfSome a Agreeing
    → ((bytes : List ℕ) → Agreeing bytes → PictureSays asked bytes picture) → IfSome a (λ bytes. PictureSays asked bytes picture)
picture_reported Agreeing asked None picture agrees says = tt
picture_reported Agreeing asked (Some u) picture agrees says = says u agrees
