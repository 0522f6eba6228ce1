-- Paragraphs, one by one.
use Rattle.std.proofs.Common.{◌≡◌, ◌∙◌, ◌+◌, ◌<◌, ℕ, List, [], ◌∷◌, ◌++◌, length, take, get_or, Some, None, refl, sym, ap, subst, append_assoc, arith, inl, inr, slice_get}
use Rattle.std.proofs.lemmas.List.{append-nil, length-take-le, take_all, take_more}
use Rattle.std.proofs.lemmas.Option.{get_or_from_slice_get, slice_get_cases, slice_get_within}
use Rattle.cops_audit.specs.declared.fault.Fault.{Fault}
use Rattle.cops_explain.specs.Naming.{ANamedHistory}
use Rattle.cops_explain.specs.Paragraphs.{AddsParagraph, IsParagraph}
use Rattle.cops_explain.specs.Explained.{AddsParagraphs, AreParagraphs}

more_paragraphs : (h : ANamedHistory) (f : Fault) (reported : List ℕ) (number : ℕ) (faults : List Fault) (text : List ℕ) → IsParagraph h (number + length faults) f reported → AreParagraphs h number faults text
    → AreParagraphs h number (faults ++ f ∷ []) (text ++ reported)
more_paragraphs h f reported number [] text one all =
    let same : number + 0 ≡ number = omega arith in
    (reported, [], subst (λ (n : ℕ). IsParagraph h n f reported) same one, ap (λ (t : List ℕ). t ++ reported) all ∙ sym (append-nil reported), refl)
more_paragraphs h f reported number (g ∷ faults) text one all =
    let next : number + length (g ∷ faults) ≡ number + 1 + length faults = omega arith in (
      all.0,
      all.1 ++ reported,
      all.2,
      ap (λ (t : List ℕ). t ++ reported) all.3 ∙ append_assoc all.0 all.1 reported,
      more_paragraphs h f reported (number + 1) faults all.1 (subst (λ (n : ℕ). IsParagraph h n f reported) next one) all.4,
    )

pub none_added : (h : ANamedHistory) (old : List ℕ) → AddsParagraphs h 1 [] old old
none_added h old = ([], refl, sym (append-nil old))

-- one more fault
pub paragraph_more : (h : ANamedHistory) (faults : List Fault) (place : ℕ) (f : Fault) (start old new : List ℕ) → slice_get faults place ≡ Some f → AddsParagraphs h 1 (take place faults) start old
    → AddsParagraph h (place + 1) f old new → AddsParagraphs h 1 (take (place + 1) faults) start new
paragraph_more h faults place f start old new at all one =
    let inside : place < length faults = slice_get_within faults place f at in
    let is : get_or faults place f ≡ f = get_or_from_slice_get faults place f f at in
    let count : length (take place faults) ≡ place = length-take-le place faults (omega arith) in
    let number : place + 1 ≡ 1 + length (take place faults) = omega (arith, count) in
    let more = more_paragraphs h f one.0 1 (take place faults) all.0 (subst (λ (n : ℕ). IsParagraph h n f one.0) number one.1) all.1 in
    let taken : take place faults ++ f ∷ [] ≡ take (place + 1) faults = sym (take_more faults place f inside ∙ ap (λ (x : Fault). take place faults ++ x ∷ []) is) in (
      all.0 ++ one.0,
      subst (λ (fs : List Fault). AreParagraphs h 1 fs (all.0 ++ one.0)) taken more,
      one.2 ∙ ap (λ (t : List ℕ). t ++ one.0) all.2 ∙ append_assoc start all.0 one.0,
    )

-- no more, past the last
pub paragraphs_past : (h : ANamedHistory) (faults : List Fault) (place : ℕ) (start old : List ℕ) → slice_get faults place ≡ None → AddsParagraphs h 1 (take place faults) start old
    → AddsParagraphs h 1 (take (place + 1) faults) start old
paragraphs_past h faults place start old none all = elim (slice_get_cases faults place).1 [
  | inl there ↦ absurd (let e : Some there.0 ≡ None = sym there.2 ∙ none in cc)
  | inr past ↦
      let same : take place faults ≡ take (place + 1) faults = take_all place faults past.0 ∙ sym (take_all (place + 1) faults (omega arith)) in
      subst (λ (fs : List Fault). AddsParagraphs h 1 fs start old) same all
]
