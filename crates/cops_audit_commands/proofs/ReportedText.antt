-- What is written, for what was read and its answer.
use Rattle.std.proofs.Common.{◌≡◌, ℕ, List, ◌++◌, take, drop, Option, Some, None, Result, Ok, Err, sym, subst, ◌∙◌, inl, inr}
use Rattle.std.specs.Prelude.{IfSome, IfOk}
use Rattle.std.specs.Io.KnownBytes.{Appends}
use Rattle.std.proofs.lemmas.List.{take-append-drop}
use Rattle.cops_types.specs.Convergence.{IsCausallyConvergent}
use Rattle.cops_types.specs.Histories.{Sessions}
use Rattle.cops_audit.specs.Verdicts.{Accepts, IsVerdict}
use Rattle.cops_audit.proofs.Consequences.{convergent}
use Rattle.cops_audit.specs.declared.verdict.Verdict.{Verdict}
use Rattle.cops_audit.specs.declared.verdict.Verdict.TheVariants as verdict
use Rattle.cops_trace.specs.Text.{sessions_of}
use Rattle.cops_audit_commands.specs.declared.audit.Answer.{Answer}
use Rattle.cops_audit_commands.specs.declared.audit.Answer.TheVariants.{Accepted}
use Rattle.cops_audit_commands.specs.Audit.{AuditSays, answer_of}
use Rattle.cops_audit_commands.specs.Convergent.{EncodesConvergent}
use Rattle.cops_audit_commands.proofs.OneText.{one_text}

-- a verdict whose answer is accepted
pub accepts : (v : Verdict) → answer_of v ≡ Accepted → Accepts v
accepts (verdict.Accepted puts) is = tt
accepts (verdict.Refused faults) is = absurd cc

-- the text for the bytes is written, whole or a prefix of it
module _ (Agreeing : List ℕ → Type 0) (Saying : List ℕ → Answer → List ℕ → Type 0) where
  pub reported_writes : (a : Option (List ℕ)) (answer : Answer) (reported : List ℕ) (old new : Option (List ℕ)) → IfSome a Agreeing → ((bytes : List ℕ) → Agreeing bytes → Saying bytes answer reported)
      → Appends old new reported → IfSome a (λ bytes. (text : List ℕ) × Saying bytes answer text × Appends old new text)
  reported_writes None answer reported old new agrees says w = tt
  reported_writes (Some u) answer reported old new agrees says w = (reported, says u agrees, w)

  pub reported_prefix : (a : Option (List ℕ)) (answer : Answer) (reported : List ℕ) (n : ℕ) (old new : Option (List ℕ)) → IfSome a Agreeing → ((bytes : List ℕ) → Agreeing bytes → Saying bytes answer reported)
      → Appends old new (take n reported) → IfSome a (λ bytes. (x : Answer) × (front : List ℕ) × (rest : List ℕ) × Saying bytes x (front ++ rest) × Appends old new front)
  reported_prefix None answer reported n old new agrees says w = tt
  reported_prefix (Some u) answer reported n old new agrees says w =
      (answer, take n reported, drop n reported, subst (Saying u answer) (sym (take-append-drop n reported)) (says u agrees), w)

converges : (h : Sessions) (v : Verdict) → Accepted ≡ answer_of v → IsVerdict h v → IsCausallyConvergent h
converges h v is w = convergent h v w (accepts v (sym is))

-- bytes whose audit accepts decode to a history that is causally convergent
pub accepted_is_convergent : (bytes reported : List ℕ) → AuditSays bytes Accepted reported → EncodesConvergent bytes
accepted_is_convergent bytes reported (inl (t, says, w)) = record {
  trace = t;
  is_trace = says.0;
  encodes = says.1;
  one = λ other h e. one_text other t h says.0 (sym e ∙ says.1);
  convergent = converges (sessions_of t) w.verdict w.answer_is w.is_report.is_verdict;
}
accepted_is_convergent bytes reported (inr (e, _, is, _)) = absurd cc

pub accepted_encodes : (a : Option (List ℕ)) (answer : Answer) (reported : List ℕ) → IfSome a (λ bytes. AuditSays bytes answer reported) → answer ≡ Accepted → IfSome a EncodesConvergent
accepted_encodes None answer reported says is = tt
accepted_encodes (Some u) answer reported says is = accepted_is_convergent u reported (subst (λ (x : Answer). AuditSays u x reported) is says)

-- the answer for what was read is the answer for the bytes
pub reported_of_bytes : {T E : Type 0} (Agreeing : List ℕ → Type 0) (Saying : List ℕ → T → Type 0) (a : Option (List ℕ)) (r : Result T E) → IfSome a Agreeing → ((bytes : List ℕ) → Agreeing bytes → IfOk r (Saying bytes))
    → IfOk r (λ reported. IfSome a (λ bytes. Saying bytes reported))
reported_of_bytes Agreeing Saying None (Ok x) agrees says = tt
reported_of_bytes Agreeing Saying (Some u) (Ok x) agrees says = says u agrees
reported_of_bytes Agreeing Saying a (Err e) agrees says = tt
