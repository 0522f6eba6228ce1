-- The objects of faults, one by one.
use Rattle.std.proofs.Common.{◌≡◌, ◌∙◌, ◌+◌, ◌<◌, ℕ, List, [], ◌∷◌, ◌++◌, length, take, get_or, Some, None, refl, sym, ap, subst, arith, inl, inr, slice_get}
use Rattle.std.proofs.lemmas.List.{length-take-le, take_all, take_more}
use Rattle.std.proofs.lemmas.Option.{get_or_from_slice_get, slice_get_cases, slice_get_within}
use Rattle.serde_json.specs.Data.{Data}
use Rattle.cops_audit.specs.declared.fault.Fault.{Fault}
use Rattle.cops_explain.specs.Naming.{ANamedHistory}
use Rattle.cops_explain_json.specs.Faults.{AreFaults, IsFaultJson}

more_faults : (named : ANamedHistory) (f : Fault) (json : Data) (number : ℕ) (faults : List Fault) (list : List Data) → IsFaultJson named (number + length faults) f json → AreFaults named number faults list
    → AreFaults named number (faults ++ f ∷ []) (list ++ json ∷ [])
more_faults named f json number [] list one all =
    let same : number + 0 ≡ number = omega arith in
    (json, [], subst (λ (n : ℕ). IsFaultJson named n f json) same one, ap (λ (l : List Data). l ++ json ∷ []) all, refl)
more_faults named f json number (g ∷ faults) list one all =
    let next : number + length (g ∷ faults) ≡ number + 1 + length faults = omega arith in (
      all.0,
      all.1 ++ json ∷ [],
      all.2,
      ap (λ (l : List Data). l ++ json ∷ []) all.3,
      more_faults named f json (number + 1) faults all.1 (subst (λ (n : ℕ). IsFaultJson named n f json) next one) all.4,
    )

-- one more fault
pub fault_more : (named : ANamedHistory) (faults : List Fault) (place : ℕ) (f : Fault) (list : List Data) (json : Data) → slice_get faults place ≡ Some f → AreFaults named 1 (take place faults) list
    → IsFaultJson named (place + 1) f json → AreFaults named 1 (take (place + 1) faults) (list ++ json ∷ [])
fault_more named faults place f list json at all one =
    let inside : place < length faults = slice_get_within faults place f at in
    let is : get_or faults place f ≡ f = get_or_from_slice_get faults place f f at in
    let count : length (take place faults) ≡ place = length-take-le place faults (omega arith) in
    let number : place + 1 ≡ 1 + length (take place faults) = omega (arith, count) in
    let more = more_faults named f json 1 (take place faults) list (subst (λ (n : ℕ). IsFaultJson named n f json) number one) all in
    let taken : take place faults ++ f ∷ [] ≡ take (place + 1) faults = sym (take_more faults place f inside ∙ ap (λ (x : Fault). take place faults ++ x ∷ []) is) in
    subst (λ (fs : List Fault). AreFaults named 1 fs (list ++ json ∷ [])) taken more

-- no more, past the last
pub faults_past : (named : ANamedHistory) (faults : List Fault) (place : ℕ) (list : List Data) → slice_get faults place ≡ None → AreFaults named 1 (take place faults) list
    → AreFaults named 1 (take (place + 1) faults) list
faults_past named faults place list none all = elim (slice_get_cases faults place).1 [
  | inl there ↦ absurd (let e : Some there.0 ≡ None = sym there.2 ∙ none in cc)
  | inr past ↦
      let same : take place faults ≡ take (place + 1) faults = take_all place faults past.0 ∙ sym (take_all (place + 1) faults (omega arith)) in
      subst (λ (fs : List Fault). AreFaults named 1 fs list) same all
]
