-- What answers mean for bytes that may be cut.
use Rattle.std.proofs.Common.{◌≡◌, ℕ, List, Vec, Global, Option, Some, None, Result, Ok, Err, subst, inl, inr}
use Rattle.std.specs.Prelude.{IfOk, IfSome}
use Rattle.std.specs.Result.{result_or}
use Rattle.cops_types.specs.Histories.{Sessions}
use Rattle.cops_audit.specs.declared.verdict.SoFar.{SoFar}
use Rattle.cops_audit.specs.declared.verdict.SoFar.TheVariants.{Clean, Waiting, Refused}
use Rattle.cops_audit.specs.SoFar.{IsSoFar, HasLastingFault}
use Rattle.cops_trace.specs.declared.fault.TraceFault.{TraceFault}
use Rattle.cops_trace.specs.declared.sink.SinkTaken.{SinkTaken}
use Rattle.cops_trace.specs.Text.{ATrace, sessions_of}
use Rattle.cops_trace.specs.Answer.{AgreesInto, BeginsAs, Says, TakesFrom}
use Rattle.cops_audit_commands.specs.declared.fed.Fed.{Fed}
use Rattle.cops_audit_commands.specs.Fed.{WasFed}
use Rattle.cops_audit_commands.specs.declared.audit.Answer.{Answer}
use Rattle.cops_audit_commands.specs.declared.audit.Answer.TheVariants.{Accepted}
use Rattle.cops_audit_commands.specs.Audit.{AuditSays, IsReported}
use Rattle.cops_audit_commands.specs.Convergent.{EncodesConvergent}
use Rattle.cops_audit_commands.specs.SoFar.{IsSoundSoFar, SaysSoFar, answer_so_far, cut_text}
use Rattle.cops_audit_commands.proofs.ReportedText.{accepted_is_convergent}

-- what holds of an answer also holds where out of memory is reported as another fault
pub or_fault : {T D E : Type 0} (r : Result T D) (e : E) (P : T → Type 0) → IfOk r P → IfOk (result_or r (Err e)) P
or_fault (Ok x) e P h = h
or_fault (Err d) e P h = tt

no_lasting_fault : (h : Sessions) (so_far : SoFar) → Accepted ≡ answer_so_far so_far → IsSoFar h so_far → ¬ HasLastingFault h
no_lasting_fault h Clean is s = s.0
no_lasting_fault h (Waiting n) is s = s.0
no_lasting_fault h Refused is s = absurd cc

pub accepted_is_sound : (bytes reported : List ℕ) → SaysSoFar bytes Accepted reported → IsSoundSoFar bytes
accepted_is_sound bytes reported (inl (offset, so_far, cut, is, _)) = inr (cut.trace, offset, cut.is_cut, no_lasting_fault (sessions_of cut.trace) so_far is cut.is_so_far)
accepted_is_sound bytes reported (inr (inl w)) = inl (accepted_is_convergent bytes reported (inl w))
accepted_is_sound bytes reported (inr (inr (e, _, _, is, _))) = absurd cc

pub accepted_sound : (a : Option (List ℕ)) (read : Result (SinkTaken Fed) TraceFault) (answer : Answer) (reported : List ℕ) → IfSome a (λ bytes. AgreesInto WasFed bytes read)
    → ((bytes : List ℕ) → AgreesInto WasFed bytes read → SaysSoFar bytes answer reported) → answer ≡ Accepted → IfSome a IsSoundSoFar
accepted_sound None read answer reported agrees says is = tt
accepted_sound (Some u) read answer reported agrees says is = accepted_is_sound u reported (subst (λ (x : Answer). SaysSoFar u x reported) is (says u agrees))

-- ---- the answer of an auditor for what was read

-- the records before a cut
pub reported_cut : {E : Type 0} (bytes : List ℕ) (taken : SinkTaken Fed) (offset : ℕ) (result : Result (Answer × Vec ℕ Global) E) → (takes : TakesFrom WasFed bytes taken) → taken.cut ≡ Some offset
    → IfOk result (λ reported. (so_far : SoFar) × IsSoFar (sessions_of takes.trace) so_far × (reported.0 ≡ answer_so_far so_far) × (reported.1.items ≡ cut_text offset so_far))
    → IfOk result (λ reported. SaysSoFar bytes reported.0 reported.1.items)
reported_cut bytes taken offset (Err e) takes place says = tt
reported_cut bytes taken offset (Ok reported) takes place (so_far, is, answer, text) =
    let cut = subst (BeginsAs bytes takes.trace) place takes.begins in
    inl (offset, so_far, record { trace = takes.trace; is_cut = cut; is_so_far = is }, answer, text)

-- a whole trace
pub reported_whole : {E : Type 0} (bytes : List ℕ) (taken : SinkTaken Fed) (result : Result (Answer × Vec ℕ Global) E) → (takes : TakesFrom WasFed bytes taken) → taken.cut ≡ None
    → IfOk result (λ reported. IsReported takes.trace reported.0 reported.1.items) → IfOk result (λ reported. SaysSoFar bytes reported.0 reported.1.items)
reported_whole bytes taken (Err e) takes place is = tt
reported_whole bytes taken (Ok reported) takes place is = inr (inl (takes.trace, subst (BeginsAs bytes takes.trace) place takes.begins, is))

-- what is said of a whole trace
pub whole_said : {E : Type 0} (bytes : List ℕ) (fed : Fed) (result : Result (Answer × Vec ℕ Global) E) → ((t : ATrace) × Says bytes (Ok t) × WasFed fed t)
    → ((t : ATrace) → WasFed fed t → IfOk result (λ reported. IsReported t reported.0 reported.1.items)) → IfOk result (λ reported. AuditSays bytes reported.0 reported.1.items)
whole_said bytes fed (Err e) whole judged = tt
whole_said bytes fed (Ok reported) (t, says, was) judged = inl (t, says, judged t was)

-- an answer that accepts
pub accepted_of : {E : Type 0} (bytes : List ℕ) (result : Result (Answer × Vec ℕ Global) E) → IfOk result (λ reported. AuditSays bytes reported.0 reported.1.items)
    → IfOk result (λ reported. reported.0 ≡ Accepted → EncodesConvergent bytes)
accepted_of bytes (Err e) says = tt
accepted_of bytes (Ok reported) says = λ is. accepted_is_convergent bytes reported.1.items (subst (λ (x : Answer). AuditSays bytes x reported.1.items) is says)

pub accepted_of_so_far : {E : Type 0} (bytes : List ℕ) (result : Result (Answer × Vec ℕ Global) E) → IfOk result (λ reported. SaysSoFar bytes reported.0 reported.1.items)
    → IfOk result (λ reported. reported.0 ≡ Accepted → IsSoundSoFar bytes)
accepted_of_so_far bytes (Err e) says = tt
accepted_of_so_far bytes (Ok reported) says = λ is. accepted_is_sound bytes reported.1.items (subst (λ (x : Answer). SaysSoFar bytes x reported.1.items) is says)
