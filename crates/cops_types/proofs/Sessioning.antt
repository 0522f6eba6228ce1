-- The items of an iterator over a session.
use Rattle.std.proofs.Common.{◌≡◌, ℕ, suc, ◌+◌, List, [], ◌∷◌, Some, None, drop, drop-cons, slice_get, sym, ap, ◌∙◌, add-one, inl, inr}
use Rattle.std.proofs.Math.ListN.{drop_of_length-le}
use Rattle.std.proofs.lemmas.Option.{get_or_from_slice_get, slice_get_cases, slice_get_within}

-- the rest from an index on begins with the item there
pub left_next : {X : Type 0} (xs : List X) (n : ℕ) (x : X) → Some x ≡ slice_get xs n → drop n xs ≡ x ∷ drop (n + 1) xs
left_next xs n x at = rw add-one (drop-cons xs n x (slice_get_within xs n x (sym at)) ∙ ap (λ y. y ∷ drop (suc n) xs) (get_or_from_slice_get xs n x x (sym at)))

-- without an item at the index the rest is empty
pub left_none : {X : Type 0} (xs : List X) (n : ℕ) → None ≡ slice_get xs n → drop n xs ≡ []
left_none xs n at = elim (slice_get_cases xs n).1 [ inl p ↦ let some : None ≡ Some p.0 = at ∙ p.2 in absurd cc | inr p ↦ drop_of_length-le xs p.0 ]
