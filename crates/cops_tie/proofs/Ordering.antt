-- A list of entries whose tickets rise is the only order of these entries in which tickets never fall.
use Rattle.std.proofs.Common.{◌≡◌, ◌≢◌, ℕ, suc, ◌<◌, ◌≤◌, ◌⊎◌, inl, inr, List, [], ◌∷◌, Bool, true, false, length, Contains, AllPairs, refl, sym, ap, ap₂, subst, ◌∙◌, arith, eqb}
use Rattle.std.specs.List.{sum_by}
use Rattle.std.specs.List.Sorted.{IsPermutation}
use Rattle.std.proofs.lemmas.Bool.{eqb-true, eqb-false}
use Rattle.std.proofs.lemmas.List.Sums.{sum_by-cons}
use Rattle.std.proofs.lemmas.List.Sorted.{IsPermutation-sym, Contains-permutation, sum_by-IsPermutation, length_permutation}
use Rattle.std.proofs.lemmas.List.Elements.{All-contains, Contains-append_right, Contains-push_cases, Contains-append_cases}
use Rattle.cops_tie.specs.Tie.{Placed, ticket, IsBelow}

abbrev pub NeverFalls : List Placed → Type 0
NeverFalls ps = AllPairs (λ p q. ticket p ≤ ticket q) ps

abbrev pub Rises : List Placed → Type 0
Rises [] = Unit {0}
Rises (p ∷ ps) = IsBelow p ps × Rises ps

contains_none : (x : Placed) → Contains [] x → ⊥
contains_none x h = omega (arith, h.1)

contains_cases : (y : Placed) (xs : List Placed) (x : Placed) → Contains (y ∷ xs) x → (y ≡ x) ⊎ Contains xs x
contains_cases y xs x h = elim (Contains-append_cases (y ∷ []) xs x h) [
  | inl a ↦ elim (Contains-push_cases [] y x a) [ inl b ↦ absurd (contains_none x b) | inr e ↦ inl e ]
  | inr b ↦ inr b
]

contains_head : (y : Placed) (ys : List Placed) → Contains (y ∷ ys) y
contains_head y ys = (0, omega arith, refl)

contains_more : (y : Placed) (ys : List Placed) (x : Placed) → Contains ys x → Contains (y ∷ ys) x
contains_more y ys x h = Contains-append_right (y ∷ []) ys x h

tail_never_falls : (y : Placed) (ys : List Placed) → NeverFalls (y ∷ ys) → NeverFalls ys
tail_never_falls y ys h i j d less inside = h (suc i) (suc j) d (omega (arith, less)) (omega (arith, inside))

head_is_least : (y : Placed) (ys : List Placed) (z : Placed) → NeverFalls (y ∷ ys) → Contains ys z → ticket y ≤ ticket z
head_is_least y ys z h at = subst (λ (q : Placed). ticket y ≤ ticket q) at.2 (h 0 (suc at.0) z (omega arith) (omega (arith, at.1)))

abbrev one_if : Bool → ℕ
one_if true = 1
one_if false = 0

-- 1 if the entry has this ticket, and 0 otherwise
abbrev is_at : ℕ → Placed → ℕ
is_at t p = one_if (eqb (ticket p) t)

is_at_itself : (t : ℕ) (p : Placed) → ticket p ≡ t → is_at t p ≡ 1
is_at_itself t p e = go (eqb (ticket p) t) refl
  where
    go : (b : Bool) → eqb (ticket p) t ≡ b → one_if b ≡ 1
    go true _ = refl
    go false f = absurd (eqb-false _ _ f e)

is_at_none : (t : ℕ) (p : Placed) → ticket p ≢ t → is_at t p ≡ 0
is_at_none t p n = go (eqb (ticket p) t) refl
  where
    go : (b : Bool) → eqb (ticket p) t ≡ b → one_if b ≡ 0
    go true f = absurd (n (eqb-true _ _ f))
    go false _ = refl

none_at : (t : ℕ) (ps : List Placed) → ((q : Placed) → Contains ps q → ticket q ≢ t) → sum_by (is_at t) ps ≡ 0
none_at t [] h = refl
none_at t (p ∷ ps) h = omega (arith, sum_by-cons (is_at t) p ps, is_at_none t p (h p (contains_head p ps)), none_at t ps (λ q at. h q (contains_more p ps q at)))

some_at : (ps : List Placed) (q : Placed) → Contains ps q → 1 ≤ sum_by (is_at (ticket q)) ps
some_at [] q at = absurd (contains_none q at)
some_at (p ∷ ps) q at = elim (contains_cases p ps q at) [
  | inl e ↦ omega (arith, sum_by-cons (is_at (ticket q)) p ps, is_at_itself (ticket q) p (ap ticket e))
  | inr b ↦ omega (arith, sum_by-cons (is_at (ticket q)) p ps, some_at ps q b)
]

-- what the second list shares with the first, if it is a permutation of it
record Same (xs ys : List Placed) : Type 0 where
  within : (z : Placed) → Contains ys z → Contains xs z
  counts : (t : ℕ) → sum_by (is_at t) ys ≡ sum_by (is_at t) xs
  long : length ys ≡ length xs

-- the first entries are equal, and the rests are related in the same way
same_head : (x : Placed) (xs : List Placed) (y : Placed) (ys : List Placed) → Rises (x ∷ xs) → NeverFalls (y ∷ ys) → Same (x ∷ xs) (y ∷ ys) → y ≡ x
same_head x xs y ys r n s = elim (contains_cases x xs y (s.within y (contains_head y ys))) [
  | inl e ↦ sym e
  | inr at ↦
      let above : ticket x < ticket y = All-contains (λ q. ticket x < ticket q) xs y r.0 at in
      let none : (q : Placed) → Contains (y ∷ ys) q → ticket q ≢ ticket x =
      λ q in_ys e. elim (contains_cases y ys q in_ys) [
        | inl f ↦ omega (arith, above, e, ap ticket f)
        | inr b ↦ omega (arith, above, e, head_is_least y ys q n b)
      ] in
      absurd (omega (arith, s.counts (ticket x), some_at (x ∷ xs) x (contains_head x xs), none_at (ticket x) (y ∷ ys) none))
]

same_rest : (x : Placed) (xs : List Placed) (ys : List Placed) → Rises (x ∷ xs) → Same (x ∷ xs) (x ∷ ys) → Same xs ys
same_rest x xs ys r s = record {
  within = λ z at. elim (contains_cases x xs z (s.within z (contains_more x ys z at))) [
    | inl e ↦
        let none : (q : Placed) → Contains xs q → ticket q ≢ ticket z =
        λ q in_xs f. omega (arith, All-contains (λ p. ticket x < ticket p) xs q r.0 in_xs, f, ap ticket e) in
        absurd (omega (arith, s.counts (ticket z), sum_by-cons (is_at (ticket z)) x xs, sum_by-cons (is_at (ticket z)) x ys, is_at_itself (ticket z) x (ap ticket e), some_at ys z at, none_at (ticket z) xs none))
    | inr b ↦ b
  ];
  counts = λ t. omega (arith, s.counts t, sum_by-cons (is_at t) x xs, sum_by-cons (is_at t) x ys);
  long = omega (arith, s.long);
}

only_order : (xs ys : List Placed) → Rises xs → NeverFalls ys → Same xs ys → ys ≡ xs
only_order [] [] r n s = refl
only_order [] (y ∷ ys) r n s = absurd (omega (arith, s.long))
only_order (x ∷ xs) [] r n s = absurd (omega (arith, s.long))
only_order (x ∷ xs) (y ∷ ys) r n s =
    let e : y ≡ x = same_head x xs y ys r n s in
    ap₂ (λ (p : Placed) (ps : List Placed). p ∷ ps) e (only_order xs ys r.1 (tail_never_falls y ys n) (same_rest x xs ys r (subst (λ (p : Placed). Same (x ∷ xs) (p ∷ ys)) e s)))

-- two orders of the same entries are equal, if tickets rise in one and never fall in the other
pub one_order : (all xs ys : List Placed) → IsPermutation all xs → IsPermutation all ys → Rises xs → NeverFalls ys → ys ≡ xs
one_order all xs ys f g r n = only_order xs ys r n (record {
  within = λ z at. Contains-permutation all xs z f (Contains-permutation ys all z (IsPermutation-sym all ys g) at);
  counts = λ t. sum_by-IsPermutation (is_at t) all ys g ∙ sym (sum_by-IsPermutation (is_at t) all xs f);
  long = length_permutation all ys g ∙ sym (length_permutation all xs f);
})
