-- A history has one explanation in JSON for each selection of faults.
use Rattle.std.proofs.Common.{◌≡◌, ◌∙◌, ◌+◌, ℕ, List, [], ◌∷◌, map, take, Option, Some, None, refl, sym, ap, ap₂, subst}
use Rattle.serde_json.specs.Data.{Data}
use Rattle.cops_types.specs.declared.op.OpName.{OpName}
use Rattle.cops_types.specs.declared.selection.Selection.{Selection}
use Rattle.cops_types.specs.declared.selection.Selection.TheVariants.{First, All, One}
use Rattle.cops_audit.specs.declared.fault.Fault.{Fault}
use Rattle.cops_audit.specs.declared.fault.Fault.TheVariants.{Doubled, NoSource, NotAbove, Stale}
use Rattle.cops_audit.specs.declared.verdict.Verdict.{Verdict}
use Rattle.cops_audit.specs.declared.verdict.Verdict.TheVariants.{Accepted, Refused}
use Rattle.cops_audit.specs.declared.verdict.Faults.{Faults}
use Rattle.cops_audit.specs.declared.verdict.Faults.TheVariants as class
use Rattle.cops_audit.specs.Faults.{fault_of_number, faults_of, op_of}
use Rattle.cops_audit.specs.Verdicts.{IsVerdict, SameFaults, SameVerdict}
use Rattle.cops_audit.proofs.Unique.{one_listing, same_verdict}
use Rattle.cops_report.proofs.ChainLaws.{one_first}
use Rattle.cops_explain.specs.declared.limits.TheConstants.{FIRST_FAULTS}
use Rattle.cops_explain.specs.Naming.{ANamedHistory}
use Rattle.cops_explain.specs.Others.{AreOthers, IsOther}
use Rattle.cops_explain_json.specs.Objects.{Member, line_text}
use Rattle.cops_explain_json.specs.Faults.{AreFaults, IsFaultJson, Show, chain_members, fault_json, puts_members}
use Rattle.cops_explain_json.specs.Explanations.{AreAsked, IsExplainedJson, IsOne, IsVerdictJson, class_text, later_classes}

same_others : (named : ANamedHistory) (op : OpName) (a b : List OpName) → AreOthers named.sessions op a → AreOthers named.sessions op b → a ≡ b
same_others named op a b p q = one_listing (λ n. n) (IsOther named.sessions op) a b p q

same_shown : (named : ANamedHistory) (fault : Fault) (x y : List Member) → Show named fault x → Show named fault y → x ≡ y
same_shown named (Doubled op) x y (a, p, e) (b, q, f) = e ∙ ap (puts_members named) (same_others named op a b p q) ∙ sym f
same_shown named (NoSource op) x y (a, p, e) (b, q, f) = e ∙ ap (puts_members named) (same_others named op a b p q) ∙ sym f
same_shown named (NotAbove fault) x y e f = e ∙ sym f
same_shown named (Stale fault) x y (a, p, e) (b, q, f) = e ∙ ap (chain_members named fault.newer) (one_first named.sessions fault.newer fault.op a b p q) ∙ sym f

same_fault : (named : ANamedHistory) (number : ℕ) (fault : Fault) (x y : Data) → IsFaultJson named number fault x → IsFaultJson named number fault y → x ≡ y
same_fault named number fault x y (a, p, e) (b, q, f) = e ∙ ap (fault_json named number (op_of fault)) (same_shown named fault a b p q) ∙ sym f

same_list : (named : ANamedHistory) (number : ℕ) (faults : List Fault) (x y : List Data) → AreFaults named number faults x → AreFaults named number faults y → x ≡ y
same_list named number [] x y e f = e ∙ sym f
same_list named number (fault ∷ faults) x y (a, u, p, e, more_x) (b, v, q, f, more_y) =
    e ∙ ap₂ (λ (d : Data) (l : List Data). d ∷ l) (same_fault named number fault a b p q) (same_list named (number + 1) faults u v more_x more_y) ∙ sym f

same_one : (named : ANamedHistory) (number : ℕ) (fault : Option Fault) (x y : List Data) → IsOne named number fault x → IsOne named number fault y → x ≡ y
same_one named number (Some fault) x y p q = same_list named number (fault ∷ []) x y p q
same_one named number None x y e f = e ∙ sym f

same_asked : (named : ANamedHistory) (faults : List Fault) (asked : Selection) (x y : List Data) → AreAsked named faults asked x → AreAsked named faults asked y → x ≡ y
same_asked named faults First x y p q = same_list named 1 (take FIRST_FAULTS faults) x y p q
same_asked named faults All x y p q = same_list named 1 faults x y p q
same_asked named faults (One number) x y p q = same_one named number (fault_of_number faults number) x y p q

-- the same faults, the same name of their class, and the same later classes
same_faults : (a b : Faults) → SameFaults a b → (faults_of a ≡ faults_of b) × (class_text a ≡ class_text b) × (later_classes a ≡ later_classes b)
same_faults (class.Doubled a) (class.Doubled b) s = (ap (map (λ n. Doubled n)) s, refl, refl)
same_faults (class.NoSource a) (class.NoSource b) s = (ap (map (λ n. NoSource n)) s, refl, refl)
same_faults (class.NotAbove a) (class.NotAbove b) s = (ap (map (λ f. NotAbove f)) s, refl, refl)
same_faults (class.Stale a) (class.Stale b) s = (ap (map (λ f. Stale f)) s, refl, refl)
same_faults a b s = absurd s

-- equal verdicts have one object
same_json : (named : ANamedHistory) (v w : Verdict) (asked : Selection) (x y : Data) → SameVerdict v w → IsVerdictJson named v asked x → IsVerdictJson named w asked y → x ≡ y
same_json named (Accepted a) (Accepted b) asked x y s e f = e ∙ sym f
same_json named (Refused a) (Refused b) asked x y s (t, p, e) (u, q, f) =
    let same = same_faults a b s in
    let listed : t ≡ u = same_asked named (faults_of b) asked t u (subst (λ (fs : List Fault). AreAsked named fs asked t) same.0 p) q in
    rw (e, f, same.0, same.1, same.2, listed)
same_json named (Accepted a) (Refused b) asked x y s e f = absurd s
same_json named (Refused a) (Accepted b) asked x y s e f = absurd s

pub one_json : (named : ANamedHistory) (v w : Verdict) (asked : Selection) (x y : List ℕ) → IsVerdict named.sessions v → IsVerdict named.sessions w → IsExplainedJson named v asked x → IsExplainedJson named w asked y → x ≡ y
one_json named v w asked x y p q (a, r, e) (b, s, f) = e ∙ ap line_text (same_json named v w asked a b (same_verdict named.sessions v w p q) r s) ∙ sym f
