use Rattle.std.proofs.Common.{◌≡◌, ◌∙◌, [], ◌∷◌, List, ℕ, length, refl, sym, arith, inl, inr}
use Rattle.cops_check.specs.Numbers.{numbers_after}
use Rattle.cops_check.proofs.numbers.op_lines.Goals as goal

no_arrivals : (table : List (List ℕ)) (arrivals numbers : List ℕ) → length arrivals ≡ 0 → numbers_after table arrivals numbers ≡ table
no_arrivals table [] numbers none = refl
no_arrivals table (client ∷ arrivals) numbers none = absurd (omega (arith, none))

no_numbers : (table : List (List ℕ)) (arrivals numbers : List ℕ) → length numbers ≡ 0 → numbers_after table arrivals numbers ≡ table
no_numbers table [] numbers none = refl
no_numbers table (client ∷ arrivals) [] none = refl
no_numbers table (client ∷ arrivals) (number ∷ numbers) none = absurd (omega (arith, none))

pub returns : goal.returns
returns c =
    let at = c.loop-client.client-iterator in
    elim c.in-None.ensures.steps [
      | inl end ↦ sym (no_arrivals _ at.a.rest.now at.b.rest.now end.1.0) ∙ c.loop-client.invariant
      | inr end ↦ sym (no_numbers _ at.a.rest.now at.b.rest.now end.1.0) ∙ c.loop-client.invariant
    ]
