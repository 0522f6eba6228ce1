-- The lines of stale gets, one by one.
use Rattle.std.proofs.Common.{◌≡◌, ◌∙◌, ◌+◌, ◌<◌, ℕ, List, [], ◌∷◌, ◌++◌, length, take, get_or, refl, sym, ap, append_assoc}
use Rattle.std.proofs.lemmas.List.{append-nil, take_more}
use Rattle.cops_types.specs.declared.op.OpName.{OpName}
use Rattle.cops_types.specs.Histories.{Sessions}
use Rattle.cops_audit.specs.declared.verdict.Stale.{Stale}
use Rattle.cops_report.specs.Chains.{IsFirstChain}
use Rattle.cops_report.specs.Reports.{AreStaleLines, stale_line}

-- the text gains the lines of stale gets
abbrev pub AddsStaleLines : Sessions → List Stale → List ℕ → List ℕ → Type 0
AddsStaleLines h faults old new = (lines : List ℕ) × AreStaleLines h faults lines × (new ≡ old ++ lines)

more_lines : (h : Sessions) (f : Stale) (chain : List OpName) → IsFirstChain h f.newer f.op chain → (faults : List Stale) (text : List ℕ) → AreStaleLines h faults text
    → AreStaleLines h (faults ++ f ∷ []) (text ++ stale_line h f chain)
more_lines h f chain first [] text lines = (chain, [], first, ap (λ (t : List ℕ). t ++ stale_line h f chain) lines ∙ sym (append-nil (stale_line h f chain)), refl)
more_lines h f chain first (g ∷ faults) text lines = (
  lines.0,
  lines.1 ++ stale_line h f chain,
  lines.2,
  ap (λ (t : List ℕ). t ++ stale_line h f chain) lines.3 ∙ append_assoc (stale_line h g lines.0) lines.1 (stale_line h f chain),
  more_lines h f chain first faults lines.1 lines.4,
)

-- one more line
pub stale_more : (h : Sessions) (faults : List Stale) (i : ℕ) (d : Stale) (chain : List OpName) (start old new : List ℕ) → i < length faults → AddsStaleLines h (take i faults) start old
    → IsFirstChain h (get_or faults i d).newer (get_or faults i d).op chain → new ≡ old ++ stale_line h (get_or faults i d) chain → AddsStaleLines h (take (i + 1) faults) start new
stale_more h faults i d chain start old new lt lines first grown =
    let line = stale_line h (get_or faults i d) chain in
    rw (take_more faults i d lt)
    (lines.0 ++ line, more_lines h (get_or faults i d) chain first (take i faults) lines.0 lines.1, grown ∙ ap (λ (t : List ℕ). t ++ line) lines.2 ∙ append_assoc start lines.0 line)
