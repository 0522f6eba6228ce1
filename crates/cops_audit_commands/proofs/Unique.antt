-- For any bytes the audit has one answer and one text.
use Rattle.std.proofs.Common.{◌≡◌, ℕ, List, [], ◌∷◌, ◌++◌, length, codes, Ok, Err, refl, sym, ap, ap₂, subst, ◌∙◌, inl, inr}
use Rattle.std.specs.List.{flat_map}
use Rattle.cops_types.specs.Histories.{Sessions}
use Rattle.cops_types.specs.declared.op.OpName.{OpName}
use Rattle.cops_audit.specs.declared.verdict.Faults.{Faults}
use Rattle.cops_audit.specs.declared.verdict.Faults.TheVariants as class
use Rattle.cops_audit.specs.declared.verdict.NotAbove.{NotAbove}
use Rattle.cops_audit.specs.declared.verdict.Stale.{Stale}
use Rattle.cops_audit.specs.declared.verdict.Verdict.{Verdict}
use Rattle.cops_audit.specs.declared.verdict.Verdict.TheVariants.{Accepted, Refused}
use Rattle.cops_audit.specs.Verdicts.{SameFaults, SameVerdict}
use Rattle.cops_audit.proofs.Unique.{same_verdict}
use Rattle.cops_report.specs.Reports.{AreStaleLines, IsRefusal, IsReport, named_line, not_above_line, refusal, stale_line}
use Rattle.cops_report.proofs.ChainLaws.{one_first}
use Rattle.cops_trace.specs.Text.{ATrace, sessions_of}
use Rattle.cops_trace.specs.Lines.{fault_line}
use Rattle.cops_trace.proofs.Readings.{one_answer}
use Rattle.cops_wire.specs.Answer.{IsBytes}
use Rattle.cops_audit_commands.specs.Audit.{AuditSays, IsReported, answer_of}
use Rattle.cops_audit_commands.specs.declared.audit.Answer.{Answer}

-- the lines of stale gets are one text
same_lines : (h : Sessions) (fs : List Stale) (x y : List ℕ) → AreStaleLines h fs x → AreStaleLines h fs y → x ≡ y
same_lines h [] x y p q = p ∙ sym q
same_lines h (f ∷ fs) x y (a, u, p, eq_x, more_x) (b, v, q, eq_y, more_y) =
    let chain : a ≡ b = one_first h f.newer f.op a b p q in
    let rest : u ≡ v = same_lines h fs u v more_x more_y in
    eq_x ∙ ap₂ (λ (c : List OpName) (r : List ℕ). stale_line h f c ++ r) chain rest ∙ sym eq_y

same_refusal : (h : Sessions) (a b : Faults) (x y : List ℕ) → SameFaults a b → IsRefusal h a x → IsRefusal h b y → x ≡ y
same_refusal h (class.Doubled a) (class.Doubled b) x y s p q =
    p ∙ ap (λ (names : List OpName). refusal h (length names) (flat_map (named_line (codes "doubled") h) names)) s ∙ sym q
same_refusal h (class.NoSource a) (class.NoSource b) x y s p q =
    p ∙ ap (λ (names : List OpName). refusal h (length names) (flat_map (named_line (codes "no source") h) names)) s ∙ sym q
same_refusal h (class.NotAbove a) (class.NotAbove b) x y s p q =
    p ∙ ap (λ (faults : List NotAbove). refusal h (length faults) (flat_map (not_above_line h) faults)) s ∙ sym q
same_refusal h (class.Stale a) (class.Stale b) x y s (u, lines, eq_x) (v, others, eq_y) =
    let same : u ≡ v = same_lines h b.items u v (subst (λ (fs : List Stale). AreStaleLines h fs u) s lines) others in
    eq_x ∙ ap₂ (λ (fs : List Stale) (l : List ℕ). refusal h (length fs) l) s same ∙ sym eq_y
same_refusal h (class.Doubled a) (class.NoSource b) x y s p q = absurd s
same_refusal h (class.Doubled a) (class.NotAbove b) x y s p q = absurd s
same_refusal h (class.Doubled a) (class.Stale b) x y s p q = absurd s
same_refusal h (class.NoSource a) (class.Doubled b) x y s p q = absurd s
same_refusal h (class.NoSource a) (class.NotAbove b) x y s p q = absurd s
same_refusal h (class.NoSource a) (class.Stale b) x y s p q = absurd s
same_refusal h (class.NotAbove a) (class.Doubled b) x y s p q = absurd s
same_refusal h (class.NotAbove a) (class.NoSource b) x y s p q = absurd s
same_refusal h (class.NotAbove a) (class.Stale b) x y s p q = absurd s
same_refusal h (class.Stale a) (class.Doubled b) x y s p q = absurd s
same_refusal h (class.Stale a) (class.NoSource b) x y s p q = absurd s
same_refusal h (class.Stale a) (class.NotAbove b) x y s p q = absurd s

-- equal verdicts have one report and one answer
same_report : (h : Sessions) (v w : Verdict) (x y : List ℕ) → SameVerdict v w → IsReport h v x → IsReport h w y → (answer_of v ≡ answer_of w) × (x ≡ y)
same_report h (Accepted a) (Accepted b) x y s p q = (refl, p ∙ sym q)
same_report h (Refused a) (Refused b) x y s p q = (refl, same_refusal h a b x y s p q)
same_report h (Accepted a) (Refused b) x y s p q = absurd s
same_report h (Refused a) (Accepted b) x y s p q = absurd s

pub same_reported : (t : ATrace) (a b : Answer) (x y : List ℕ) → IsReported t a x → IsReported t b y → (a ≡ b) × (x ≡ y)
same_reported t a b x y p q =
    let h = sessions_of t in
    let verdicts = same_verdict h p.verdict q.verdict p.is_report.is_verdict q.is_report.is_verdict in
    let same = same_report h p.verdict q.verdict x y verdicts p.is_report.is_report q.is_report.is_report in
    (p.answer_is ∙ same.0 ∙ sym q.answer_is, same.1)

pub one_audit : (bytes : List ℕ) (a b : Answer) (x y : List ℕ) → IsBytes bytes → AuditSays bytes a x → AuditSays bytes b y → (a ≡ b) × (x ≡ y)
one_audit bytes a b x y fits (inl (t, says, reported)) (inl (u, others, other)) =
    let same : t ≡ u = let one = one_answer bytes (Ok t) (Ok u) fits says others in cc in
    same_reported u a b x y (subst (λ (v : ATrace). IsReported v a x) same reported) other
one_audit bytes a b x y fits (inl (t, says, reported)) (inr (e, others, is_b, is_y)) = absurd (let one = one_answer bytes (Ok t) (Err e) fits says others in cc)
one_audit bytes a b x y fits (inr (e, says, is_a, is_x)) (inl (t, others, other)) = absurd (let one = one_answer bytes (Err e) (Ok t) fits says others in cc)
one_audit bytes a b x y fits (inr (e, says, is_a, is_x)) (inr (f, others, is_b, is_y)) =
    let same : e ≡ f = let one = one_answer bytes (Err e) (Err f) fits says others in cc in
    (is_a ∙ sym is_b, is_x ∙ ap fault_line same ∙ sym is_y)
