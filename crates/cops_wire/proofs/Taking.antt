-- Taking a message's frame off the front of the rest.
use Rattle.std.proofs.Common.{◌≡◌, ℕ, List, ◌++◌, drop, sym, ap, ◌∙◌}
use Rattle.std.proofs.lemmas.List.{drop_at}
use Rattle.cops_wire.specs.Grammar.{Grammar, Parts, encoding}
use Rattle.cops_wire.specs.Legal.{IsMessage}
use Rattle.cops_wire.specs.Answer.{HasMessage}

pub taken : (g : Grammar) (rest slice : List ℕ) (used : ℕ) (p : Parts) → slice ≡ rest → HasMessage g slice p used → IsMessage g p × (rest ≡ encoding g p ++ drop used rest)
taken g rest slice used p same h =
    let front : rest ≡ encoding g p ++ h.rest = sym same ∙ h.front in
    let after : drop used rest ≡ h.rest = ap (drop used) front ∙ drop_at (encoding g p) h.rest used (sym h.length_is) in
    (h.message, front ∙ ap (λ (t : List ℕ). encoding g p ++ t) (sym after))
