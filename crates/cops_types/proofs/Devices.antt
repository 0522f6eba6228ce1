-- The bytes that a reader gave, and those that a writer took.
use Rattle.std.proofs.Common.{◌≡◌, ℕ, zero, suc, List, ◌++◌, Option, Some, None, Ok, [], refl, sym, ap, ◌∙◌, append_assoc}
use Rattle.std.specs.Io.KnownBytes.{Appends, Consumes}
use Rattle.cops_types.specs.Failures.{counted_write}

pub appends_more : (a b c : Option (List ℕ)) (xs ys zs : List ℕ) → Appends a b xs → Appends b c ys → xs ++ ys ≡ zs → Appends a c zs
appends_more None b c xs ys zs p q e = tt
appends_more (Some u) None c xs ys zs p q e = absurd p
appends_more (Some u) (Some v) None xs ys zs p q e = absurd q
appends_more (Some u) (Some v) (Some w) xs ys zs p q e =
    q ∙ ap (λ (t : List ℕ). t ++ ys) p ∙ append_assoc u xs ys ∙ ap (λ (t : List ℕ). u ++ t) e

-- a write that takes something does not count as a failure
pub counted_some : (E : Type 0) (f n : ℕ) (bytes : List ℕ) → (n ≡ 0 → ⊥) → counted_write {E = E} f (Ok n) bytes ≡ f
counted_some E f zero bytes h = absurd (h refl)
counted_some E f (suc k) bytes h = refl

-- consuming bytes, and then more
pub consumed : (a b c : Option (List ℕ)) (xs ys : List ℕ) → Consumes a b xs → Consumes b c ys → Consumes a c (xs ++ ys)
consumed None b c xs ys p q = tt
consumed (Some u) None c xs ys p q = absurd p
consumed (Some u) (Some v) None xs ys p q = absurd q
consumed (Some u) (Some v) (Some w) xs ys p q = p ∙ ap (λ (t : List ℕ). xs ++ t) q ∙ sym (append_assoc xs ys w)

pub consumed_none : (a : Option (List ℕ)) → Consumes a a []
consumed_none None = tt
consumed_none (Some u) = refl
