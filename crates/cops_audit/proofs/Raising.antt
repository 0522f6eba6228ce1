-- Counts that are raised.
use Rattle.std.proofs.Common.{rules, ◌≡◌, ◌≢◌, ◌<◌, ◌≤◌, ◌+◌, ◌-◌, ◌⊎◌, ℕ, List, [], ◌∷◌, ◌++◌, length, get_or, sym, ◌∙◌, ap, subst, inl, inr, arith, slice_set, get_or-set_same}
use Rattle.std.specs.Prelude.{sum_by}
use Rattle.std.proofs.lemmas.Bool.Decides.{eqb_tells}
use Rattle.std.proofs.lemmas.List.Elements.{Contains-append_left, Contains-push, Contains-push_cases}
use Rattle.std.proofs.lemmas.List.Sums.{sum_by-set}
use Rattle.cops_types.specs.declared.op.OpName.{OpName}
use Rattle.cops_audit.specs.declared.sweep.OpRange.{OpRange}
use Rattle.cops_audit.specs.Sweeps.{Counted, InRange, InSome}

either : (i j : ℕ) → (i ≡ j) ⊎ (i ≢ j)
either i j = elim (eqb_tells i j) [ inl p ↦ inl p.1 | inr p ↦ inr p.1 ]

module _ (xs : List ℕ) (c to : ℕ) (inside : c < length xs) where
  at_same : (n : OpName) → n.client ≡ c → get_or (slice_set xs c to) n.client 0 ≡ to
  at_same n same = ap (λ (k : ℕ). get_or (slice_set xs c to) k 0) same ∙ get_or-set_same xs c to 0 inside

  pub counted_then : (n : OpName) → Counted (slice_set xs c to) n → Counted xs n ⊎ ((n.client ≡ c) × (n.index < to))
  counted_then n there = search rules

  pub counted_kept : get_or xs c 0 ≤ to → (n : OpName) → Counted xs n → Counted (slice_set xs c to) n
  counted_kept le n there = search rules

  pub counted_raised : (n : OpName) → n.client ≡ c → n.index < to → Counted (slice_set xs c to) n
  counted_raised n same less = omega (arith, less, at_same n same)

  -- what is newly counted is in the range from the old count on
  pub newly_in_range : (n : OpName) → Counted (slice_set xs c to) n → Counted xs n ⊎ InRange (record { client = c; from = get_or xs c 0; to = to }) n
  newly_in_range n there = search rules

  pub room_falls : (m : ℕ) → get_or xs c 0 < to → to ≤ m → sum_by (λ k. m - k) (slice_set xs c to) + 1 ≤ sum_by (λ k. m - k) xs
  room_falls m less fits = omega (arith, sum_by-set (λ (k : ℕ). m - k) xs c to 0 inside, less, fits)

pub in_some_kept : (ranges : List OpRange) (r : OpRange) (n : OpName) → InSome ranges n → InSome (ranges ++ r ∷ []) n
in_some_kept ranges r n w = (w.0, Contains-append_left ranges (r ∷ []) w.0 w.1, w.2)

pub in_some_last : (ranges : List OpRange) (r : OpRange) (n : OpName) → InRange r n → InSome (ranges ++ r ∷ []) n
in_some_last ranges r n w = (r, Contains-push ranges r, w)

pub in_some_cases : (ranges : List OpRange) (r : OpRange) (n : OpName) → InSome (ranges ++ r ∷ []) n → InSome ranges n ⊎ InRange r n
in_some_cases ranges r n w = elim (Contains-push_cases ranges r w.0 w.1) [
  | inl old ↦ inl (w.0, old, w.2)
  | inr same ↦ inr (subst (λ x. InRange x n) (sym same) w.2)
]
