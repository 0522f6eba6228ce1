-- Splitting a text into lines, and the operations of the lines.
use Rattle.std.proofs.Common.{◌≡◌, ◌==◌, ◌+◌, ℕ, List, [], ◌∷◌, ◌++◌, length, refl, sym, ap, subst, ◌∙◌, append_assoc, arith}
use Rattle.std.specs.Prelude.{Option}
use Rattle.std.proofs.lemmas.List.{append-nil}
use Rattle.std.proofs.lemmas.List.Splits.{slice_split_at, slice_split_none}
use Rattle.cops_import.specs.declared.rules.Rules.{Rules}
use Rattle.cops_import.specs.Line.{LineGives}
use Rattle.cops_import.specs.Lines.{IsWithin, GiveAfter, lines, with_reported}
use Rattle.cops_import.specs.declared.reported.Reported.{Reported}

-- the lines of `fed` are `ended`, and then `line`, which may go on
abbrev pub Splits : List ℕ → List (List ℕ) → List ℕ → Type 0
Splits fed ended line = (more : List ℕ) → lines (fed ++ more) ≡ ended ++ lines (line ++ more)

pub split_none : Splits [] [] []
split_none more = refl

-- a further part of the last line
pub split_part : (fed : List ℕ) (ended : List (List ℕ)) (line part : List ℕ) → Splits fed ended line → Splits (fed ++ part) ended (line ++ part)
split_part fed ended line part h more = ap lines (append_assoc fed part more) ∙ h (part ++ more) ∙ ap (λ (l : List ℕ). ended ++ lines l) (sym (append_assoc line part more))

-- the line that a line feed ends
pub split_here : (fed : List ℕ) (ended : List (List ℕ)) (line more : List ℕ) → Splits fed ended line → IsWithin line → lines ((fed ++ 10 ∷ []) ++ more) ≡ ended ++ line ∷ lines more
split_here fed ended line more h within =
    ap lines (append_assoc fed (10 ∷ []) more) ∙ h (10 ∷ more) ∙ ap (λ (ls : List (List ℕ)). ended ++ ls) (slice_split_at (λ (b : ℕ). b == 10) line 10 more within refl)

pub split_ended : (fed : List ℕ) (ended : List (List ℕ)) (line : List ℕ) → Splits fed ended line → IsWithin line → Splits (fed ++ 10 ∷ []) (ended ++ line ∷ []) []
split_ended fed ended line h within more = split_here fed ended line more h within ∙ sym (append_assoc ended (line ∷ []) (lines more))

-- the last line, which no line feed ends
pub split_last : (fed : List ℕ) (ended : List (List ℕ)) (line : List ℕ) → Splits fed ended line → IsWithin line → lines fed ≡ ended ++ line ∷ []
split_last fed ended line h within =
    ap lines (sym (append-nil fed)) ∙ h [] ∙ ap (λ (l : List ℕ). ended ++ lines l) (append-nil line)
    ∙ ap (λ (ls : List (List ℕ)). ended ++ ls) (slice_split_none (λ (b : ℕ). b == 10) line within)

-- what one more line reports comes last
pub report_more : (rules : Rules) (number at : ℕ) (earlier : List Reported) (ls : List (List ℕ)) (given : List Reported) (line : List ℕ) (reported : Option Reported) → GiveAfter rules number earlier ls given → at ≡ number + length ls
    → LineGives rules at line reported → GiveAfter rules number earlier (ls ++ line ∷ []) (with_reported given reported)
report_more rules number at earlier [] given line reported h counted is =
    let here : at ≡ number = omega (arith, counted) in
    (reported, subst (λ (n : ℕ). LineGives rules n line reported) here is, ap (λ (ts : List Reported). with_reported ts reported) h)
report_more rules number at earlier (l ∷ ls) given line reported h counted is =
    (h.0, h.1, report_more rules (number + 1) at (with_reported earlier h.0) ls given line reported h.2 (omega (arith, counted)) is)
