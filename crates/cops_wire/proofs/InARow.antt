-- Showing fields one after another.
use Rattle.std.proofs.Common.{◌≡◌, ◌∙◌, ℕ, List, [], ◌∷◌, ◌++◌, refl, ap}
use Rattle.std.specs.List.{flat_map}
use Rattle.std.proofs.lemmas.List.{append-nil}
use Rattle.std.proofs.lemmas.List.Concat.{flat_map-cons}
use Rattle.cops_wire.specs.declared.showing.Named.{Named}
use Rattle.cops_wire.specs.Lines.{named_text, fields_text}

pub in_a_row : (fs : List Named) → flat_map named_text fs ≡ fields_text fs
in_a_row [] = refl
in_a_row (f ∷ []) = flat_map-cons named_text f [] ∙ append-nil (named_text f)
in_a_row (f ∷ g ∷ fs) = flat_map-cons named_text f (g ∷ fs) ∙ ap (λ (t : List ℕ). named_text f ++ t) (in_a_row (g ∷ fs))
