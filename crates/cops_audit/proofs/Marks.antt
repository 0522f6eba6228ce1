-- The mark of a session: what its operations saw is below it.
use Rattle.std.proofs.Common.{rules, ◌≡◌, ◌≤◌, ◌+◌, ◌⊎◌, ℕ, zero, suc, List, [], ◌∷◌, ◌++◌, length, Some, refl, sym, ◌∙◌, ap, inl, inr, arith, max, slice_get}
use Rattle.std.proofs.lemmas.Bool.{cases_lt}
use Rattle.std.proofs.lemmas.Option.{slice_get_within}
use Rattle.cops_audit.specs.declared.summaries.Summary.{Summary}
use Rattle.cops_audit.specs.Summaries.{above, IsMark}

-- an element of a longer list is one before the last, or the last
pub slice_get_push : {A : Type 0} (xs : List A) (y q : A) (i : ℕ) → slice_get (xs ++ y ∷ []) i ≡ Some q → (slice_get xs i ≡ Some q) ⊎ ((i ≡ length xs) × (y ≡ q))
slice_get_push [] y q zero e = inr (refl, let s : y ≡ q = cc in s)
slice_get_push [] y q (suc i) e = absurd cc
slice_get_push (x ∷ xs) y q zero e = inl e
slice_get_push (x ∷ xs) y q (suc i) e = elim (slice_get_push xs y q i e) [ inl l ↦ inl l | inr r ↦ inr (ap suc r.0, r.1) ]

pub slice_get_kept : {A : Type 0} (xs : List A) (y q : A) (i : ℕ) → slice_get xs i ≡ Some q → slice_get (xs ++ y ∷ []) i ≡ Some q
slice_get_kept [] y q i e = absurd cc
slice_get_kept (x ∷ xs) y q zero e = e
slice_get_kept (x ∷ xs) y q (suc i) e = slice_get_kept xs y q i e

pub slice_get_last : {A : Type 0} (xs : List A) (y : A) → slice_get (xs ++ y ∷ []) (length xs) ≡ Some y
slice_get_last [] y = refl
slice_get_last (x ∷ xs) y = slice_get_last xs y

-- one more operation leaves the marks before it as they are
pub mark_kept : (session : List Summary) (summary : Summary) (count mark : ℕ) → count ≤ length session → IsMark session count mark → IsMark (session ++ summary ∷ []) count mark
mark_kept session summary count mark short m = record {
  bounds = λ i x less at. elim (slice_get_push session summary x i at) [ inl old ↦ m.bounds i x less old | inr new ↦ absurd (omega (arith, less, short, new.0)) ];
  reached = elim m.reached [ inl none ↦ inl none | inr r ↦ inr (r.0, r.1, r.2, slice_get_kept session summary r.1 r.0 r.3, r.4) ];
}

-- one more operation, whose place raises the mark where it is above it
pub mark_more : (session : List Summary) (summary : Summary) (count mark : ℕ) → length session ≡ count → IsMark session count mark → IsMark (session ++ summary ∷ []) (count + 1) (max mark (above summary.seen))
mark_more session summary count mark len m = record {
  bounds = λ i x less at. elim (slice_get_push session summary x i at) [
    | inl old ↦ omega (arith, m.bounds i x (omega (arith, slice_get_within session i x old, len)) old)
    | inr new ↦ let e : above summary.seen ≡ above x.seen = ap (λ (y : Summary). above y.seen) new.1 in omega (arith, e)
  ];
  reached = elim (cases_lt mark (above summary.seen)) [
    | inl high ↦ inr (count, summary, omega arith, ap (slice_get (session ++ summary ∷ [])) (sym len) ∙ slice_get_last session summary, omega (arith, high))
    | inr low ↦ elim m.reached [
      | inl none ↦ inl (omega (arith, none, low))
      | inr r ↦ inr (r.0, r.1, omega (arith, r.2), slice_get_kept session summary r.1 r.0 r.3, omega (arith, r.4, low))
    ]
  ];
}

-- the mark of more operations is not lower
pub mark_grows : (session : List Summary) (i j m n : ℕ) → IsMark session i m → IsMark session j n → i ≤ j → m ≤ n
mark_grows session i j m n a b le = search rules
