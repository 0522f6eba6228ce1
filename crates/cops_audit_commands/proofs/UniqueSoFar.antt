-- For any bytes that may be cut there is one answer and one text.
use Rattle.std.proofs.Common.{◌≡◌, ℕ, List, [], ◌∷◌, length, take, Option, Ok, Err, refl, sym, ap, ap₂, subst, ◌∙◌, inl, inr, arith}
use Rattle.std.specs.Prelude.{unwrap_or, ◌↔◌}
use Rattle.std.proofs.lemmas.List.{take_at}
use Rattle.cops_types.specs.declared.op.OpName.{OpName}
use Rattle.cops_types.specs.Histories.{Sessions}
use Rattle.cops_audit.specs.declared.verdict.SoFar.{SoFar}
use Rattle.cops_audit.specs.declared.verdict.SoFar.TheVariants.{Clean, Waiting, Refused}
use Rattle.cops_audit.specs.SoFar.{IsSoFar, IsWaiting}
use Rattle.cops_audit.proofs.Unique.{one_listing, some_fault}
use Rattle.cops_trace.specs.declared.fault.TraceFault.TheVariants.{Cut}
use Rattle.cops_trace.specs.Text.{ATrace, sessions_of}
use Rattle.cops_trace.specs.Answer.{HasFault, IsCutAfter, Says, text_before}
use Rattle.cops_trace.specs.Lines.{fault_line}
use Rattle.cops_trace.proofs.Readings.{one_answer}
use Rattle.cops_wire.specs.Answer.{IsBytes}
use Rattle.cops_audit_commands.specs.Audit.{AuditSays, IsReported}
use Rattle.cops_audit_commands.specs.SoFar.{SaysSoFar, answer_so_far, cut_text}
use Rattle.cops_audit_commands.specs.declared.audit.Answer.{Answer}
use Rattle.cops_types.specs.declared.format.Format.TheVariants.{One}
use Rattle.cops_audit_commands.proofs.OneText.{one_prefix}
use Rattle.cops_audit_commands.proofs.Unique.{same_reported}

-- ---- the verdict so far

some_waits : (h : Sessions) (n : ℕ) → IsSoFar h (Waiting n) → (name : OpName) × IsWaiting h name
some_waits h n (_, some, [], _, count) = absurd (omega (arith, some, count))
some_waits h n (_, some, m ∷ ms, lists, count) = some_fault {A = OpName} (λ k. k) (IsWaiting h) (m ∷ ms) (λ e. cc) lists

one_so_far : (h : Sessions) (s r : SoFar) → IsSoFar h s → IsSoFar h r → s ≡ r
one_so_far h Clean Clean p q = refl
one_so_far h Refused Refused p q = refl
one_so_far h (Waiting n) (Waiting m) p q =
    let same = one_listing {A = OpName} (λ k. k) (IsWaiting h) p.2 q.2 p.3 q.3 in
    ap (λ (k : ℕ). Waiting k) (sym p.4 ∙ ap length same ∙ q.4)
one_so_far h Clean (Waiting n) p q = let some = some_waits h n q in absurd (p.1 some.0 some.1)
one_so_far h (Waiting n) Clean p q = let some = some_waits h n p in absurd (q.1 some.0 some.1)
one_so_far h Clean Refused p q = absurd (p.0 q)
one_so_far h (Waiting n) Refused p q = absurd (p.0 q)
one_so_far h Refused Clean p q = absurd (q.0 p)
one_so_far h Refused (Waiting n) p q = absurd (q.0 p)

-- ---- where bytes are cut

cut_fault : (bytes : List ℕ) (t : ATrace) (offset : ℕ) → IsCutAfter bytes t offset → Says bytes (Err (Cut offset))
cut_fault bytes t offset h = inr (inl (record { begun = h.begun; rest = h.rest; begins = h.begins; stands = h.stands; fault_is = ap (λ (n : ℕ). Cut n) h.place }))

one_place : (bytes : List ℕ) (t u : ATrace) (n m : ℕ) → IsBytes bytes → IsCutAfter bytes t n → IsCutAfter bytes u m → n ≡ m
one_place bytes t u n m fits h k = let one = one_answer bytes (Err (Cut n)) (Err (Cut m)) fits (cut_fault bytes t n h) (cut_fault bytes u m k) in cc

one_cut : (bytes : List ℕ) (t u : ATrace) (n m : ℕ) → IsBytes bytes → IsCutAfter bytes t n → IsCutAfter bytes u m → t ≡ u
one_cut bytes t u n m fits h k =
    let place : length (text_before k.begun) ≡ length (text_before h.begun) = sym k.place ∙ sym (one_place bytes t u n m fits h k) ∙ h.place in
    let size = length (text_before h.begun) in
    let prefixes : text_before h.begun ≡ text_before k.begun =
    sym (take_at (text_before h.begun) h.rest size refl) ∙ ap (take size) (sym h.begins.parts ∙ k.begins.parts) ∙ take_at (text_before k.begun) k.rest size place in
    let same = one_prefix h.begun k.begun h.begins.is_trace k.begins.is_trace prefixes in
    h.trace_is ∙ ap (λ (b : Option ATrace). unwrap_or b (record { format = One; clients = 0; records = [] })) same ∙ sym k.trace_is

-- ---- the answer and the text

pub one_audit_so_far : (bytes : List ℕ) (a b : Answer) (x y : List ℕ) → IsBytes bytes → SaysSoFar bytes a x → SaysSoFar bytes b y → (a ≡ b) × (x ≡ y)
one_audit_so_far bytes a b x y fits (inl (n, s, cut, is_a, is_x)) (inl (m, r, other, is_b, is_y)) =
    let trace = one_cut bytes cut.trace other.trace n m fits cut.is_cut other.is_cut in
    let place = one_place bytes cut.trace other.trace n m fits cut.is_cut other.is_cut in
    let so_far = one_so_far (sessions_of other.trace) s r (subst (λ (t : ATrace). IsSoFar (sessions_of t) s) trace cut.is_so_far) other.is_so_far in
    (is_a ∙ ap answer_so_far so_far ∙ sym is_b, is_x ∙ ap₂ cut_text place so_far ∙ sym is_y)
one_audit_so_far bytes a b x y fits (inr (inl (t, says, reported))) (inr (inl (u, others, other))) =
    let same : t ≡ u = let one = one_answer bytes (Ok t) (Ok u) fits says others in cc in
    same_reported u a b x y (subst (λ (v : ATrace). IsReported v a x) same reported) other
one_audit_so_far bytes a b x y fits (inr (inr (e, _, says, is_a, is_x))) (inr (inr (f, _, others, is_b, is_y))) =
    let same : e ≡ f = let one = one_answer bytes (Err e) (Err f) fits says others in cc in
    (is_a ∙ sym is_b, is_x ∙ ap fault_line same ∙ sym is_y)
one_audit_so_far bytes a b x y fits (inl (n, s, cut, _, _)) (inr (inl (u, others, _))) =
    absurd (let one = one_answer bytes (Err (Cut n)) (Ok u) fits (cut_fault bytes cut.trace n cut.is_cut) others in cc)
one_audit_so_far bytes a b x y fits (inr (inl (t, says, _))) (inl (m, r, other, _, _)) =
    absurd (let one = one_answer bytes (Ok t) (Err (Cut m)) fits says (cut_fault bytes other.trace m other.is_cut) in cc)
one_audit_so_far bytes a b x y fits (inl (n, s, cut, _, _)) (inr (inr (f, no_cut, others, _, _))) =
    let one = one_answer bytes (Err f) (Err (Cut n)) fits others (cut_fault bytes cut.trace n cut.is_cut) in
    absurd (no_cut n cc)
one_audit_so_far bytes a b x y fits (inr (inr (e, no_cut, says, _, _))) (inl (m, r, other, _, _)) =
    let one = one_answer bytes (Err e) (Err (Cut m)) fits says (cut_fault bytes other.trace m other.is_cut) in
    absurd (no_cut m cc)
one_audit_so_far bytes a b x y fits (inr (inl (t, says, _))) (inr (inr (f, _, others, _, _))) = absurd (let one = one_answer bytes (Ok t) (Err f) fits says others in cc)
one_audit_so_far bytes a b x y fits (inr (inr (e, _, says, _, _))) (inr (inl (u, others, _))) = absurd (let one = one_answer bytes (Err e) (Ok u) fits says others in cc)

-- bytes that are not cut have the answer of the audit
pub uncut : (bytes : List ℕ) → ((offset : ℕ) → ¬ HasFault bytes (Cut offset)) → (answer : Answer) (reported : List ℕ) → SaysSoFar bytes answer reported ↔ AuditSays bytes answer reported
uncut bytes none answer reported = (there, back)
  where
    there : SaysSoFar bytes answer reported → AuditSays bytes answer reported
    there (inl (n, _, cut, _, _)) = absurd (none n (cut_fault bytes cut.trace n cut.is_cut))
    there (inr (inl w)) = inl w
    there (inr (inr (e, _, says, is_answer, is_reported))) = inr (e, says, is_answer, is_reported)

    back : AuditSays bytes answer reported → SaysSoFar bytes answer reported
    back (inl w) = inr (inl w)
    back (inr (e, says, is_answer, is_reported)) = inr (inr (e, (λ offset same. none offset (subst (HasFault bytes) same says)), says, is_answer, is_reported))
