-- Names that a loop lists in their order.
use Rattle.std.proofs.Common.{◌≡◌, ◌<◌, ◌⊎◌, ℕ, zero, suc, List, [], ◌∷◌, length, Some, refl, inl, inr, arith, slice_get, slice_index_or, Contains}
use Rattle.std.proofs.lemmas.Option.{slice_get_within}
use Rattle.cops_types.specs.declared.op.OpName.{OpName}
use Rattle.cops_types.specs.Histories.{Sessions, IsNamed}

pub slice_get_there : {A : Type 0} (s : List A) (i : ℕ) → i < length s → (x : A) × (slice_get s i ≡ Some x)
slice_get_there [] i less = absurd (omega (arith, less))
slice_get_there (y ∷ ys) zero less = (y, refl)
slice_get_there (y ∷ ys) (suc i) less = slice_get_there ys i (omega (arith, less))

-- a named operation is in its session, and its session in the history
pub named_index : (h : Sessions) (n : OpName) → IsNamed h n → n.index < length (slice_index_or h n.client [])
named_index h n there = slice_get_within (slice_index_or h n.client []) n.index there.0 there.1

-- an element of one of the lists is in a list that is there
pub in_lists : {A : Type 0} (xss : List (List A)) (c i : ℕ) (x : A) → slice_get (slice_index_or xss c []) i ≡ Some x → c < length xss
in_lists [] c i x e = absurd cc
in_lists (xs ∷ xss) zero i x e = omega arith
in_lists (xs ∷ xss) (suc c) i x e = omega (arith, in_lists xss c i x e)

pub named_client : (h : Sessions) (n : OpName) → IsNamed h n → n.client < length h
named_client h n there = in_lists h n.client n.index there.0 there.1

-- the first element, or a later one
pub first_or_later : {A : Type 0} (n : A) (ns : List A) (m : A) → Contains (n ∷ ns) m → (n ≡ m) ⊎ Contains ns m
first_or_later n ns m (zero, less, e) = inl e
first_or_later n ns m (suc k, less, e) = inr (k, omega (arith, less), e)

pub later : {A : Type 0} (n : A) (ns : List A) (m : A) → Contains ns m → Contains (n ∷ ns) m
later n ns m (k, less, e) = (suc k, omega (arith, less), e)
