-- For any bytes the explanation has one answer and one text.
use Rattle.std.proofs.Common.{◌≡◌, ◌∙◌, ℕ, Bool, true, false, List, Ok, Err, refl, sym, ap, subst, inl, inr}
use Rattle.cops_audit.specs.Verdicts.{SameVerdict}
use Rattle.cops_audit.specs.declared.verdict.Verdict.{Verdict}
use Rattle.cops_audit.specs.declared.verdict.Verdict.TheVariants as verdict
use Rattle.cops_audit.proofs.Unique.{same_verdict}
use Rattle.cops_types.specs.declared.selection.Selection.{Selection}
use Rattle.cops_explain.proofs.Unique as explained
use Rattle.cops_explain.specs.Naming.{ANamedHistory}
use Rattle.cops_explain.specs.declared.naming.Naming.TheVariants.{Trace}
use Rattle.cops_explain_json.proofs.OneJson as json
use Rattle.cops_audit.specs.Verdicts.{IsVerdict}
use Rattle.cops_trace.specs.Text.{ATrace, sessions_of}
use Rattle.cops_trace.proofs.Readings.{one_answer}
use Rattle.cops_wire.specs.Answer.{IsBytes}
use Rattle.cops_audit_commands.specs.Audit.{AuditSays, IsReported, answer_of}
use Rattle.cops_audit_commands.specs.Explain.{ExplainSays, IsExplainedAs, IsExplanation, faulty_text}
use Rattle.cops_audit_commands.specs.declared.explain.Request.{Request}
use Rattle.cops_audit_commands.specs.declared.audit.Answer.{Answer}

same_answer : (v w : Verdict) → SameVerdict v w → answer_of v ≡ answer_of w
same_answer (verdict.Accepted a) (verdict.Accepted b) s = refl
same_answer (verdict.Refused a) (verdict.Refused b) s = refl
same_answer (verdict.Accepted a) (verdict.Refused b) s = absurd s
same_answer (verdict.Refused a) (verdict.Accepted b) s = absurd s

-- in words as in JSON
one_text : (is_json : Bool) (named : ANamedHistory) (v w : Verdict) (asked : Selection) (x y : List ℕ) → IsVerdict named.sessions v → IsVerdict named.sessions w
    → IsExplainedAs is_json named v asked x → IsExplainedAs is_json named w asked y → x ≡ y
one_text false named v w asked x y is_v is_w p q = explained.one_explanation named v w asked x y is_v is_w p q
one_text true named v w asked x y is_v is_w p q = json.one_json named v w asked x y is_v is_w p q

same_explained : (t : ATrace) (request : Request) (a b : Answer) (x y : List ℕ) → IsExplanation t Trace request a x → IsExplanation t Trace request b y → (a ≡ b) × (x ≡ y)
same_explained t request a b x y p q =
    let h = sessions_of t in (
      p.answer_is ∙ same_answer p.verdict q.verdict (same_verdict h p.verdict q.verdict p.is_verdict q.is_verdict) ∙ sym q.answer_is,
      one_text request.is_json (record { sessions = h; naming = Trace }) p.verdict q.verdict request.faults x y p.is_verdict q.is_verdict p.is_explained q.is_explained,
    )

same_audited : (t : ATrace) (request : Request) (a b : Answer) (x y : List ℕ) → IsExplanation t Trace request a x → IsReported t b y → a ≡ b
same_audited t request a b x y p q =
    p.answer_is ∙ same_answer p.verdict q.verdict (same_verdict (sessions_of t) p.verdict q.verdict p.is_verdict q.is_report.is_verdict) ∙ sym q.answer_is

pub one_explanation : (bytes : List ℕ) → IsBytes bytes → (request : Request) (a b : Answer) (x y : List ℕ) → ExplainSays request bytes a x → ExplainSays request bytes b y → (a ≡ b) × (x ≡ y)
one_explanation bytes fits request a b x y (inl (t, says, reported)) (inl (u, others, other)) =
    let same : t ≡ u = let one = one_answer bytes (Ok t) (Ok u) fits says others in cc in
    same_explained u request a b x y (subst (λ (v : ATrace). IsExplanation v Trace request a x) same reported) other
one_explanation bytes fits request a b x y (inl (t, says, reported)) (inr (e, others, is_b, is_y)) = absurd (let one = one_answer bytes (Ok t) (Err e) fits says others in cc)
one_explanation bytes fits request a b x y (inr (e, says, is_a, is_x)) (inl (t, others, other)) = absurd (let one = one_answer bytes (Err e) (Ok t) fits says others in cc)
one_explanation bytes fits request a b x y (inr (e, says, is_a, is_x)) (inr (f, others, is_b, is_y)) =
    let same : e ≡ f = let one = one_answer bytes (Err e) (Err f) fits says others in cc in
    (is_a ∙ sym is_b, is_x ∙ ap (faulty_text request.is_json) same ∙ sym is_y)

pub explained_as_audited : (bytes : List ℕ) → IsBytes bytes → (request : Request) (a b : Answer) (x y : List ℕ) → ExplainSays request bytes a x → AuditSays bytes b y → a ≡ b
explained_as_audited bytes fits request a b x y (inl (t, says, reported)) (inl (u, others, other)) =
    let same : t ≡ u = let one = one_answer bytes (Ok t) (Ok u) fits says others in cc in
    same_audited u request a b x y (subst (λ (v : ATrace). IsExplanation v Trace request a x) same reported) other
explained_as_audited bytes fits request a b x y (inl (t, says, reported)) (inr (e, others, is_b, is_y)) = absurd (let one = one_answer bytes (Ok t) (Err e) fits says others in cc)
explained_as_audited bytes fits request a b x y (inr (e, says, is_a, is_x)) (inl (t, others, other)) = absurd (let one = one_answer bytes (Err e) (Ok t) fits says others in cc)
explained_as_audited bytes fits request a b x y (inr (e, says, is_a, is_x)) (inr (f, others, is_b, is_y)) = is_a ∙ sym is_b
