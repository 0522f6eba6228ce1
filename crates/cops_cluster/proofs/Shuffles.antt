-- Permutations of lists.
use Rattle.std.proofs.Common.{◌≡◌, ℕ, zero, suc, ◌<◌, Bool, true, false, cond, List, [], ◌∷◌, ◌++◌, length, get_or, set, filter, refl, subst, not-suc-le-zero, le_of_suc-le-suc}
use Rattle.std.specs.List.{swap}
use Rattle.std.specs.List.Sorted.{IsPermutation}
use Rattle.std.proofs.lemmas.List.Sorted.{IsPermutation-refl, IsPermutation-cons, IsPermutation-middle, IsPermutation-trans, IsPermutation-keeps}

-- one list is a permutation of the other, by steps at the front
data Shuffles {X : Type 0} : List X → List X → Type 0 where
  none : Shuffles [] []
  behind : {x : X} {xs ys : List X} → Shuffles xs ys → Shuffles (x ∷ xs) (x ∷ ys)
  flip : {x y : X} {xs : List X} → Shuffles (x ∷ y ∷ xs) (y ∷ x ∷ xs)
  both : {xs ys zs : List X} → Shuffles xs ys → Shuffles ys zs → Shuffles xs zs

-- the second list is the first with an element inserted somewhere
data PutIn {X : Type 0} (x : X) : List X → List X → Type 0 where
  here : {xs : List X} → PutIn x xs (x ∷ xs)
  further : {y : X} {xs ys : List X} → PutIn x xs ys → PutIn x (y ∷ xs) (y ∷ ys)

module _ {X : Type 0} where
  same : (xs : List X) → Shuffles xs xs
  same [] = none
  same (x ∷ xs) = behind (same xs)

  first_swapped : (x : X) (xs : List X) (j : ℕ) (d : X) → j < length xs → Shuffles (x ∷ xs) (get_or xs j d ∷ set xs j x)
  first_swapped x [] j d below = absurd (not-suc-le-zero below)
  first_swapped x (y ∷ ys) zero d below = flip
  first_swapped x (y ∷ ys) (suc j) d below = both flip (both (behind (first_swapped x ys j d (le_of_suc-le-suc below))) flip)

  swapped : (xs : List X) (i j : ℕ) (d : X) → i < length xs → j < length xs → Shuffles xs (set (set xs i (get_or xs j d)) j (get_or xs i d))
  swapped [] i j d p q = absurd (not-suc-le-zero p)
  swapped (x ∷ xs) zero zero d p q = same (x ∷ xs)
  swapped (x ∷ xs) zero (suc j) d p q = first_swapped x xs j d (le_of_suc-le-suc q)
  swapped (x ∷ xs) (suc i) zero d p q = first_swapped x xs i d (le_of_suc-le-suc p)
  swapped (x ∷ xs) (suc i) (suc j) d p q = behind (swapped xs i j d (le_of_suc-le-suc p) (le_of_suc-le-suc q))

  step : (l : List X) (i j : ℕ) → i < length l → j < length l → Shuffles l (swap l i j)
  step [] i j p q = none
  step (x ∷ xs) i j p q = swapped (x ∷ xs) i j x p q

  from_permutation : (xs ys : List X) → IsPermutation xs ys → Shuffles xs ys
  from_permutation xs ys = IsPermutation-keeps xs (λ l. Shuffles xs l) (same xs) (λ l i j p q h. both h (step l i j p q)) ys

  to_permutation : {xs ys : List X} → Shuffles xs ys → IsPermutation xs ys
  to_permutation none = IsPermutation-refl []
  to_permutation (behind {x} {xs} {ys} s) = IsPermutation-cons x xs ys (to_permutation s)
  to_permutation (flip {x} {y} {xs}) = IsPermutation-middle (x ∷ []) y xs
  to_permutation (both {xs} {ys} {zs} s t) = IsPermutation-trans xs ys zs (to_permutation s) (to_permutation t)

  -- filtering both lists by one test, where their first elements are equal
  behind_tested : (b : Bool) (x : X) {us vs : List X} → Shuffles us vs → Shuffles (cond b (x ∷ us) us) (cond b (x ∷ vs) vs)
  behind_tested true x s = behind s
  behind_tested false x s = s

  flip_tested : (b c : Bool) (x y : X) (us : List X) → Shuffles (cond b (x ∷ cond c (y ∷ us) us) (cond c (y ∷ us) us)) (cond c (y ∷ cond b (x ∷ us) us) (cond b (x ∷ us) us))
  flip_tested true true x y us = flip
  flip_tested true false x y us = same (x ∷ us)
  flip_tested false true x y us = same (y ∷ us)
  flip_tested false false x y us = same us

  filtered : (p : X → Bool) {xs ys : List X} → Shuffles xs ys → Shuffles (filter p xs) (filter p ys)
  filtered p none = none
  filtered p (behind {x} s) = behind_tested (p x) x (filtered p s)
  filtered p (flip {x} {y} {xs}) = flip_tested (p x) (p y) x y (filter p xs)
  filtered p (both s t) = both (filtered p s) (filtered p t)

  -- removing an element that both lists have
  taken_out : (a : X) {us vs : List X} → Shuffles us vs → (xs : List X) → PutIn a xs us → (ys : List X) × (PutIn a ys vs × Shuffles xs ys)
  taken_out a none xs j = elim j [ ]
  taken_out a (behind {x} {xs = us} {ys = vs} s) xs here = (vs, (here, s))
  taken_out a (behind {x} s) (y ∷ xs) (further j) =
      let r = taken_out a s xs j in
      (x ∷ r.0, (further r.1.0, behind r.1.1))
  taken_out a (flip {x} {y} {xs = us}) xs here = (y ∷ us, (further here, same (y ∷ us)))
  taken_out a (flip {x} {y} {xs = us}) (z ∷ xs) (further here) = (x ∷ us, (here, same (x ∷ us)))
  taken_out a (flip {x} {y} {xs = us}) (z ∷ w ∷ xs) (further (further j)) = (y ∷ x ∷ xs, (further (further j), flip))
  taken_out a (both s t) xs j =
      let r = taken_out a s xs j in
      let q = taken_out a t r.0 r.1.0 in
      (q.0, (q.1.0, both r.1.1 q.1.1))

  to_prefix : {a : X} {xs ys : List X} → PutIn a xs ys → Shuffles (a ∷ xs) ys
  to_prefix here = same _
  to_prefix (further j) = both flip (behind (to_prefix j))

  without_first : (a b : X) {xs ys zs : List X} → b ≡ a → PutIn a zs (b ∷ ys) → Shuffles xs zs → Shuffles xs ys
  without_first a b e here s = s
  without_first a b {xs} e (further {xs = zs} j) s = both (subst (λ (x : X). Shuffles xs (x ∷ zs)) e s) (to_prefix j)

  without_prefix : (zs : List X) {xs ys : List X} → Shuffles (zs ++ xs) (zs ++ ys) → Shuffles xs ys
  without_prefix [] s = s
  without_prefix (z ∷ zs) {xs} s =
      let r = taken_out z s (zs ++ xs) here in
      without_prefix zs (without_first z z refl r.1.0 r.1.1)

  -- filtering keeps lists permutations of each other
  pub IsPermutation-filter : (p : X → Bool) (xs ys : List X) → IsPermutation xs ys → IsPermutation (filter p xs) (filter p ys)
  IsPermutation-filter p xs ys h = to_permutation (filtered p (from_permutation xs ys h))

  -- removing a common prefix keeps lists permutations of each other
  pub IsPermutation-cancel_left : (zs xs ys : List X) → IsPermutation (zs ++ xs) (zs ++ ys) → IsPermutation xs ys
  IsPermutation-cancel_left zs xs ys h = to_permutation (without_prefix zs (from_permutation (zs ++ xs) (zs ++ ys) h))
