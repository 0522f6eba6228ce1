-- A history has one explanation for each selection of faults.
use Rattle.std.proofs.Common.{◌≡◌, ◌∙◌, ◌+◌, ◌-◌, ℕ, List, [], ◌∷◌, ◌++◌, length, map, take, Option, Some, None, refl, sym, ap, ap₂, subst}
use Rattle.cops_types.specs.declared.op.OpName.{OpName}
use Rattle.cops_types.specs.Histories.{Sessions}
use Rattle.cops_audit.specs.declared.verdict.Faults.{Faults}
use Rattle.cops_audit.specs.declared.verdict.Faults.TheVariants as class
use Rattle.cops_audit.specs.declared.verdict.Verdict.{Verdict}
use Rattle.cops_audit.specs.declared.verdict.Verdict.TheVariants.{Accepted, Refused}
use Rattle.cops_audit.specs.Verdicts.{IsVerdict, SameFaults, SameVerdict}
use Rattle.cops_audit.proofs.Unique.{one_listing, same_verdict}
use Rattle.cops_types.specs.Counts.{count_of, put_count}
use Rattle.cops_types.specs.Texts.{◌⧺◌}
use Rattle.cops_outcomes.specs.Words.{outcome_text}
use Rattle.cops_report.proofs.ChainLaws.{one_first}
use Rattle.cops_types.specs.declared.selection.Selection.{Selection}
use Rattle.cops_types.specs.declared.selection.Selection.TheVariants.{First, All, One}
use Rattle.cops_explain.specs.declared.limits.TheConstants.{FIRST_FAULTS}
use Rattle.cops_audit.specs.declared.fault.Fault.{Fault}
use Rattle.cops_audit.specs.declared.fault.Fault.TheVariants.{Doubled, NoSource, NotAbove, Stale}
use Rattle.cops_audit.specs.Faults.{fault_of_number, faults_of}
use Rattle.cops_explain.specs.Others.{AreOthers, IsOther}
use Rattle.cops_explain.specs.Naming.{ANamedHistory, outcomes_of}
use Rattle.cops_explain.specs.Paragraphs.{IsParagraph, Shows, cause_text, doubled_text, no_source_text, stale_text, title}
use Rattle.cops_explain.specs.Explained.{AreParagraphs, IsExplained, ExplainsAsked, ExplainsOne, first_line, later_text, more_text}

same_others : (h : Sessions) (name : OpName) (a b : List OpName) → AreOthers h name a → AreOthers h name b → a ≡ b
same_others h name a b p q = one_listing (λ n. n) (IsOther h name) a b p q

same_shown : (h : ANamedHistory) (fault : Fault) (x y : List ℕ) → Shows h fault x → Shows h fault y → x ≡ y
same_shown h (Doubled name) x y (a, p, e) (b, q, f) = e ∙ ap (doubled_text h name) (same_others h.sessions name a b p q) ∙ sym f
same_shown h (NoSource name) x y (a, p, e) (b, q, f) = e ∙ ap (no_source_text h name) (same_others h.sessions name a b p q) ∙ sym f
same_shown h (NotAbove fault) x y e f = e ∙ sym f
same_shown h (Stale fault) x y (a, p, e) (b, q, f) = e ∙ ap (stale_text h fault) (one_first h.sessions fault.newer fault.op a b p q) ∙ sym f

same_paragraph : (h : ANamedHistory) (number : ℕ) (fault : Fault) (x y : List ℕ) → IsParagraph h number fault x → IsParagraph h number fault y → x ≡ y
same_paragraph h number fault x y (a, p, e) (b, q, f) = e ∙ ap (λ (t : List ℕ). title h number fault ⧺ t ⧺ cause_text fault) (same_shown h fault a b p q) ∙ sym f

same_paragraphs : (h : ANamedHistory) (number : ℕ) (faults : List Fault) (x y : List ℕ) → AreParagraphs h number faults x → AreParagraphs h number faults y → x ≡ y
same_paragraphs h number [] x y e f = e ∙ sym f
same_paragraphs h number (fault ∷ faults) x y (a, u, p, e, more_x) (b, v, q, f, more_y) =
    e ∙ ap₂ (λ (s t : List ℕ). s ++ t) (same_paragraph h number fault a b p q) (same_paragraphs h (number + 1) faults u v more_x more_y) ∙ sym f

same_one : (h : ANamedHistory) (number : ℕ) (fault : Option Fault) (x y : List ℕ) → ExplainsOne h number fault x → ExplainsOne h number fault y → x ≡ y
same_one h number (Some fault) x y p q = same_paragraph h number fault x y p q
same_one h number None x y e f = e ∙ sym f

same_asked : (h : ANamedHistory) (faults : List Fault) (asked : Selection) (x y : List ℕ) → ExplainsAsked h faults asked x → ExplainsAsked h faults asked y → x ≡ y
same_asked h faults First x y (a, p, e) (b, q, f) =
    e ∙ ap (λ (t : List ℕ). t ++ more_text (length faults - FIRST_FAULTS)) (same_paragraphs h 1 (take FIRST_FAULTS faults) a b p q) ∙ sym f
same_asked h faults All x y p q = same_paragraphs h 1 faults x y p q
same_asked h faults (One number) x y p q = same_one h number (fault_of_number faults number) x y p q

same_faults : (a b : Faults) → SameFaults a b → faults_of a ≡ faults_of b
same_faults (class.Doubled a) (class.Doubled b) s = ap (map (λ n. Doubled n)) s
same_faults (class.NoSource a) (class.NoSource b) s = ap (map (λ n. NoSource n)) s
same_faults (class.NotAbove a) (class.NotAbove b) s = ap (map (λ f. NotAbove f)) s
same_faults (class.Stale a) (class.Stale b) s = ap (map (λ f. Stale f)) s
same_faults (class.Doubled a) (class.NoSource b) s = absurd s
same_faults (class.Doubled a) (class.NotAbove b) s = absurd s
same_faults (class.Doubled a) (class.Stale b) s = absurd s
same_faults (class.NoSource a) (class.Doubled b) s = absurd s
same_faults (class.NoSource a) (class.NotAbove b) s = absurd s
same_faults (class.NoSource a) (class.Stale b) s = absurd s
same_faults (class.NotAbove a) (class.Doubled b) s = absurd s
same_faults (class.NotAbove a) (class.NoSource b) s = absurd s
same_faults (class.NotAbove a) (class.Stale b) s = absurd s
same_faults (class.Stale a) (class.Doubled b) s = absurd s
same_faults (class.Stale a) (class.NoSource b) s = absurd s
same_faults (class.Stale a) (class.NotAbove b) s = absurd s

same_later : (a b : Faults) → SameFaults a b → later_text a ≡ later_text b
same_later (class.Doubled a) (class.Doubled b) s = refl
same_later (class.Doubled a) (class.NoSource b) s = absurd s
same_later (class.Doubled a) (class.NotAbove b) s = absurd s
same_later (class.Doubled a) (class.Stale b) s = absurd s
same_later (class.NoSource a) (class.Doubled b) s = absurd s
same_later (class.NoSource a) (class.NoSource b) s = refl
same_later (class.NoSource a) (class.NotAbove b) s = absurd s
same_later (class.NoSource a) (class.Stale b) s = absurd s
same_later (class.NotAbove a) (class.Doubled b) s = absurd s
same_later (class.NotAbove a) (class.NoSource b) s = absurd s
same_later (class.NotAbove a) (class.NotAbove b) s = refl
same_later (class.NotAbove a) (class.Stale b) s = absurd s
same_later (class.Stale a) (class.Doubled b) s = absurd s
same_later (class.Stale a) (class.NoSource b) s = absurd s
same_later (class.Stale a) (class.NotAbove b) s = absurd s
same_later (class.Stale a) (class.Stale b) s = refl

-- equal verdicts have one explanation
same_explanation : (h : ANamedHistory) (v w : Verdict) (asked : Selection) (x y : List ℕ) → SameVerdict v w → IsExplained h v asked x → IsExplained h w asked y → x ≡ y
same_explanation h (Accepted a) (Accepted b) asked x y s e f = e ∙ sym f
same_explanation h (Refused a) (Refused b) asked x y s (t, p, e) (u, q, f) =
    let same : faults_of a ≡ faults_of b = same_faults a b s in
    let reported : t ≡ u = same_asked h (faults_of b) asked t u (subst (λ (fs : List Fault). ExplainsAsked h fs asked t) same p) q in
    e
    ∙ ap₂ (λ (fs : List Fault) (r : List ℕ). first_line (count_of h.sessions) (put_count h.sessions) (length fs) ⧺ outcome_text (outcomes_of h.naming) ⧺ r) same (ap₂ (λ (r l : List ℕ). r ⧺ l) reported (same_later a b s))
    ∙ sym f
same_explanation h (Accepted a) (Refused b) asked x y s e f = absurd s
same_explanation h (Refused a) (Accepted b) asked x y s e f = absurd s

pub one_explanation : (h : ANamedHistory) (v w : Verdict) (asked : Selection) (x y : List ℕ) → IsVerdict h.sessions v → IsVerdict h.sessions w → IsExplained h v asked x → IsExplained h w asked y → x ≡ y
one_explanation h v w asked x y p q e f = same_explanation h v w asked x y (same_verdict h.sessions v w p q) e f
