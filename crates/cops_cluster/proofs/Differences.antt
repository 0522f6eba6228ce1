-- The least number at which the elements of two lists differ as multisets.
use Rattle.std.proofs.Common.{◌≡◌, ℕ, zero, suc, ◌+◌, ◌<◌, ◌≤◌, ◌==◌, Bool, false, true, cond, List, [], ◌∷◌, ◌++◌, length, get_or, take, drop, filter, refl, sym, ap, subst, ◌∙◌, arith, append-nil, eq-eqb, ne_eqb, get_or-drop, length-drop, take-append-drop, le_of_suc-le-suc, not-suc-le-zero, add-zero, ⊎_elim}
use Rattle.std.specs.List.{All, Contains, SwappedAt}
use Rattle.std.specs.List.Sorted.{IsPermutation, IsNonDecreasingBy}
use Rattle.std.proofs.lemmas.List.Elements.{All-contains, All-contains_itself, All-filter, All-head, All-tail, All-weaker, filter-append}
use Rattle.std.proofs.lemmas.List.Sorted.{Contains-permutation, IsPermutation-refl, IsPermutation-sym, IsPermutation-trans}
use Rattle.std.proofs.lemmas.List.{get_or_default}
use Rattle.std.proofs.lemmas.Bool.{cases_eq}
use Rattle.cops_cluster.proofs.Shuffles.{IsPermutation-cancel_left, IsPermutation-filter}

module _ {X : Type 0} (n : X → ℕ) where
  abbrev at : ℕ → List X → List X
  at t xs = filter (λ x. n x == t) xs

  none_at : (t : ℕ) (xs : List X) → All (λ x. t < n x) xs → at t xs ≡ []
  none_at t [] above = refl
  none_at t (x ∷ xs) above =
      let first : t < n x = All-head (λ y. t < n y) x xs above in
      let no : (n x == t) ≡ false = ne_eqb (n x) t (omega arith) in
      ap (λ b. cond b (x ∷ at t xs) (at t xs)) no ∙ none_at t xs (All-tail (λ y. t < n y) x xs above)

  stands_at : (t : ℕ) (x : X) → n x ≡ t → (xs : List X) → Contains xs x → Contains (at t xs) x
  stands_at t x e [] (k, below, is) = absurd (not-suc-le-zero below)
  stands_at t x e (y ∷ ys) (zero, below, is) =
      let yes : (n y == t) ≡ true = eq-eqb (n y) t (ap n is ∙ e) in
      subst (λ b. Contains (cond b (y ∷ at t ys) (at t ys)) x) (sym yes) (0, omega arith, is)
  stands_at t x e (y ∷ ys) (suc k, below, is) =
      either (n y == t) (stands_at t x e ys (k, le_of_suc-le-suc below, is))
    where
      either : (b : Bool) → Contains (at t ys) x → Contains (cond b (y ∷ at t ys) (at t ys)) x
      either true (j, under, same) = (suc j, omega arith, same)
      either false h = h

  stood_at : (t : ℕ) (xs : List X) (x : X) → Contains (at t xs) x → Contains xs x
  stood_at t xs x = All-contains (Contains xs) (at t xs) x (All-filter (λ y. n y == t) (Contains xs) xs (All-contains_itself xs))

  -- an element that only one of the lists has makes them differ at its number
  apart_by_first : (t : ℕ) (x : X) (xs ys : List X) → n x ≡ t → Contains xs x → (Contains ys x → ⊥) → IsPermutation (at t xs) (at t ys) → ⊥
  apart_by_first t x xs ys e h never same = never (stood_at t ys x (Contains-permutation (at t xs) (at t ys) x same (stands_at t x e xs h)))

  at_split : (t i : ℕ) (xs : List X) → at t xs ≡ at t (take i xs) ++ at t (drop i xs)
  at_split t i xs = ap (at t) (sym (take-append-drop i xs)) ∙ filter-append (λ x. n x == t) (take i xs) (drop i xs)

  -- in a sorted list, no number from a place on is below the one at that place
  from_place : (xs : List X) (i t : ℕ) → IsNonDecreasingBy n xs → ((d : X) → i < length xs → t ≤ n (get_or xs i d)) → All (λ x. t ≤ n x) (drop i xs)
  from_place xs i t sorted first = λ k d below.
      let inside : i + k < length xs = omega (arith, length-drop i xs) in
      omega (arith, ap n (get_or-drop i xs k d), sorted i (i + k) d (omega arith) inside, first d (omega arith))

  module _ (xs ys : List X) (i t : ℕ) (front : take i xs ≡ take i ys) (first : All (λ x. t ≤ n x) (drop i xs)) (second : All (λ x. t ≤ n x) (drop i ys)) where
    prefix_at : (zs : List X) (u : ℕ) → u < t → All (λ x. t ≤ n x) (drop i zs) → at u zs ≡ at u (take i zs)
    prefix_at zs u less rest =
        at_split u i zs ∙ (ap (λ l. at u (take i zs) ++ l) (none_at u (drop i zs) (All-weaker (λ x. t ≤ n x) (λ x. u < n x) (λ x le. omega arith) (drop i zs) rest)) ∙ append-nil (at u (take i zs)))

    same_below : (u : ℕ) → u < t → IsPermutation (at u xs) (at u ys)
    same_below u less =
        let e : at u xs ≡ at u ys = prefix_at xs u less first ∙ (ap (at u) front ∙ sym (prefix_at ys u less second)) in
        subst (IsPermutation (at u xs)) e (IsPermutation-refl (at u xs))

    apart_behind : (IsPermutation (at t (drop i xs)) (at t (drop i ys)) → ⊥) → IsPermutation (at t xs) (at t ys) → ⊥
    apart_behind never same =
        let e : at t ys ≡ at t (take i xs) ++ at t (drop i ys) = at_split t i ys ∙ ap (λ l. at t l ++ at t (drop i ys)) (sym front) in
        never (IsPermutation-cancel_left (at t (take i xs)) (at t (drop i xs)) (at t (drop i ys))
        (subst (λ l. IsPermutation l (at t (take i xs) ++ at t (drop i ys))) (at_split t i xs) (subst (IsPermutation (at t xs)) e same)))

  -- at this number the elements differ as multisets, and at every lesser number they do not
  abbrev pub IsLeast : List X → List X → ℕ → Type 0
  IsLeast xs ys t = (IsPermutation (at t xs) (at t ys) → ⊥) × ((u : ℕ) → u < t → IsPermutation (at u xs) (at u ys))

  -- after a common prefix, an element that only one list has, with no lesser number in either, gives the least difference
  pub least_by_first : (xs ys : List X) (i : ℕ) (x : X) → IsNonDecreasingBy n xs → IsNonDecreasingBy n ys → take i xs ≡ take i ys → i < length xs → get_or xs i x ≡ x
      → ((d : X) → i < length ys → n x ≤ n (get_or ys i d)) → (Contains (drop i ys) x → ⊥) → IsLeast xs ys (n x)
  least_by_first xs ys i x xs_sorted ys_sorted front inside there least absent =
      let first = from_place xs i (n x) xs_sorted (λ d lt. omega (arith, ap n (get_or_default xs i d x lt), ap n there)) in
      let second = from_place ys i (n x) ys_sorted least in
      let stands : Contains (drop i xs) x = (0, omega (arith, length-drop i xs), get_or-drop i xs 0 x ∙ (ap (λ k. get_or xs k x) (add-zero i) ∙ there)) in
      (apart_behind xs ys i (n x) front first second (apart_by_first (n x) x (drop i xs) (drop i ys) refl stands absent), same_below xs ys i (n x) front first second)

  -- where all numbers from a place on are greater than an element's, the element does not occur there
  pub absent_above : (xs : List X) (i : ℕ) (x : X) → IsNonDecreasingBy n xs → ((d : X) → i < length xs → n x < n (get_or xs i d)) → Contains (drop i xs) x → ⊥
  absent_above xs i x sorted above stands =
      let rest = from_place xs i (n x + 1) sorted (λ d lt. omega (arith, above d lt)) in
      let less : n x + 1 ≤ n x = All-contains (λ y. n x + 1 ≤ n y) (drop i xs) x rest stands in
      omega (arith, less)

  pub least_flipped : (xs ys : List X) (t : ℕ) → IsLeast xs ys t → IsLeast ys xs t
  least_flipped xs ys t h = (λ p. h.0 (IsPermutation-sym (at t ys) (at t xs) p), λ u less. IsPermutation-sym (at u xs) (at u ys) (h.1 u less))

  -- the least difference does not depend on the order of the lists
  pub least_permuted : (xs us ys vs : List X) (t : ℕ) → IsPermutation xs us → IsPermutation ys vs → IsLeast us vs t → IsLeast xs ys t
  least_permuted xs us ys vs t p q h =
      let first : (u : ℕ) → IsPermutation (at u xs) (at u us) = λ u. IsPermutation-filter (λ x. n x == u) xs us p in
      let second : (u : ℕ) → IsPermutation (at u ys) (at u vs) = λ u. IsPermutation-filter (λ x. n x == u) ys vs q in (
        λ s. h.0 (IsPermutation-trans _ _ _ (IsPermutation-sym _ _ (first t)) (IsPermutation-trans _ _ _ s (second t))),
        λ u less. IsPermutation-trans _ _ _ (first u) (IsPermutation-trans _ _ _ (h.1 u less) (IsPermutation-sym _ _ (second u))),
      )

  -- swapping two elements with the same number keeps a list sorted
  pub still_sorted : (xs ys : List X) (i j : ℕ) → SwappedAt xs ys i j → length ys ≡ length xs → ((d : X) → n (get_or xs i d) ≡ n (get_or xs j d)) → IsNonDecreasingBy n xs → IsNonDecreasingBy n ys
  still_sorted xs ys i j swapped len alike sorted = λ k m d le inside. omega (arith, same k d, same m d, sorted k m d le (omega arith))
    where
      same : (k : ℕ) (d : X) → n (get_or ys k d) ≡ n (get_or xs k d)
      same k d =
          ⊎_elim (λ e. ap (λ l. n (get_or ys l d)) e ∙ (ap n (swapped.0 d) ∙ (sym (alike d) ∙ ap (λ l. n (get_or xs l d)) (sym e))))
          (λ other. ⊎_elim (λ e. ap (λ l. n (get_or ys l d)) e ∙ (ap n (swapped.1 d) ∙ (alike d ∙ ap (λ l. n (get_or xs l d)) (sym e))))
          (λ another. ap n (swapped.2 k d other another)) (cases_eq k j)) (cases_eq k i)
