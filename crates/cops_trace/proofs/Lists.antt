-- Facts about all elements of a list, about its first elements, and about counts.
use Rattle.std.proofs.Common.{◌≡◌, ◌≢◌, ℕ, suc, ◌+◌, ◌<◌, Bool, true, false, cond, eqb, List, [], ◌∷◌, ◌++◌, length, take, refl, ap, ◌∙◌, arith, inl, inr, eq-eqb}
use Rattle.std.specs.Prelude.{count_by, ◌⊎◌}
use Rattle.std.specs.List.{AllByRecursion}
use Rattle.std.proofs.lemmas.Bool.{cases_Bool, cases_lt, eqb-true}
use Rattle.std.proofs.lemmas.List.Sums.{sum_by-append, sum_by-cons}
use Rattle.cops_trace.specs.Text.{ARecord, turn}

pub all_both : {X : Type 0} (P : X → Type 0) (xs ys : List X) → AllByRecursion P xs → AllByRecursion P ys → AllByRecursion P (xs ++ ys)
all_both P [] ys h k = k
all_both P (x ∷ xs) ys h k = (h.0, all_both P xs ys h.1 k)

pub all_prefix : {X : Type 0} (P : X → Type 0) (xs ys : List X) → AllByRecursion P (xs ++ ys) → AllByRecursion P xs
all_prefix P [] ys h = tt
all_prefix P (x ∷ xs) ys h = (h.0, all_prefix P xs ys h.1)

pub all_back : {X : Type 0} (P : X → Type 0) (xs ys : List X) → AllByRecursion P (xs ++ ys) → AllByRecursion P ys
all_back P [] ys h = h
all_back P (x ∷ xs) ys h = all_back P xs ys h.1

pub take_past : (xs ys : List ℕ) (n : ℕ) → take (length xs + n) (xs ++ ys) ≡ xs ++ take n ys
take_past [] ys n = let e : 0 + n ≡ n = omega arith in ap (λ (m : ℕ). take m ys) e
take_past (x ∷ xs) ys n =
    let e : suc (length xs) + n ≡ suc (length xs + n) = omega arith in
    ap (λ (m : ℕ). take m (x ∷ (xs ++ ys))) e ∙ ap (λ (l : List ℕ). x ∷ l) (take_past xs ys n)

-- two numbers are equal, or not
pub same_or_other : (a b : ℕ) → (a ≡ b) ⊎ (eqb a b ≡ false)
same_or_other a b = elim (cases_Bool (eqb a b)) [ inl p ↦ inl (eqb-true _ _ p) | inr p ↦ inr p ]

pub turn-append : (c : ℕ) (xs ys : List ARecord) → turn c (xs ++ ys) ≡ turn c xs + turn c ys
turn-append c xs ys = sum_by-append (λ (r : ARecord). cond (eqb r.client c) 1 0) xs ys

pub turn-cons : (c : ℕ) (r : ARecord) (rs : List ARecord) → turn c (r ∷ rs) ≡ cond (eqb r.client c) 1 0 + turn c rs
turn-cons c r rs = sum_by-cons (λ (r : ARecord). cond (eqb r.client c) 1 0) r rs

-- a record raises its client's turn by one, and leaves the others
pub turn-same : (rs : List ARecord) (r : ARecord) → turn r.client (rs ++ r ∷ []) ≡ turn r.client rs + 1
turn-same rs r = turn-append r.client rs (r ∷ []) ∙ omega (arith, one r)
  where
    one : (r : ARecord) → turn r.client (r ∷ []) ≡ 1
    one r = grind arith

pub turn-other : (rs : List ARecord) (r : ARecord) (c : ℕ) → eqb r.client c ≡ false → turn c (rs ++ r ∷ []) ≡ turn c rs
turn-other rs r c h = turn-append c rs (r ∷ []) ∙ rw h (omega arith)

-- like `turn`, for a list of numbers
abbrev pub times : ℕ → List ℕ → ℕ
times c cs = count_by (λ d. eqb d c) cs

pub times-append : (c : ℕ) (xs ys : List ℕ) → times c (xs ++ ys) ≡ times c xs + times c ys
times-append c xs ys = sum_by-append (λ (d : ℕ). cond (eqb d c) 1 0) xs ys

pub times-cons : (c d : ℕ) (cs : List ℕ) → times c (d ∷ cs) ≡ cond (eqb d c) 1 0 + times c cs
times-cons c d cs = sum_by-cons (λ (d : ℕ). cond (eqb d c) 1 0) d cs

one_if : (b : Bool) → b ≡ true → cond {A = ℕ} b 1 0 ≡ 1
one_if b h = rw h refl

pub times-same : (c : ℕ) (cs : List ℕ) → times c (c ∷ cs) ≡ times c cs + 1
times-same c cs = times-cons c c cs ∙ omega (arith, one_if (eqb c c) (eq-eqb c c refl))

-- if the limits are not reached, there is room
pub not_refused : (a b m n : ℕ) → (((a < m) × (b < n) → ⊥) → ⊥) → (a < m) × (b < n)
not_refused a b m n h =
    elim (cases_lt a m) [
      | inl p ↦ elim (cases_lt b n) [ inl q ↦ (p, q) | inr q ↦ absurd (h (λ r. let below = r.1 in absurd (omega arith))) ]
      | inr p ↦ absurd (h (λ r. let below = r.0 in absurd (omega arith)))
    ]

-- a list that is not empty stays so with more at its end
pub nothing_before : (xs ys : List ℕ) → xs ≢ [] → xs ++ ys ≢ []
nothing_before [] ys some e = some refl
nothing_before (x ∷ xs) ys some e = cc
