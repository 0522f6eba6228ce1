-- Ranks keep the order of a store's versions, and which of them are equal.
use Rattle.std.proofs.Common.{◌≡◌, ◌<◌, ℕ, List, get_or, length, sym, ap, subst, ◌∙◌, arith, inl, inr}
use Rattle.std.specs.Prelude.{Some, slice_get}
use Rattle.std.specs.Cmp.{IsTotalOrder, on_total, then_total}
use Rattle.std.specs.Cmp.Lexicographic.{slice_cmp}
use Rattle.std.specs.Ordering.{nat_cmp, ordering_reverse, ordering_then}
use Rattle.std.specs.declared.cmp.Ordering.{Ordering}
use Rattle.std.specs.declared.cmp.Ordering.TheVariants.{Less, Equal, Greater}
use Rattle.std.proofs.lemmas.Bool.{cases_order}
use Rattle.std.proofs.lemmas.Cmp.{nat_cmp_total, nat_list_cmp_total, tied_itself}
use Rattle.std.proofs.lemmas.Option.{get_or_from_slice_get, slice_get-get_or, slice_get_within}
use Rattle.cops_import.specs.Stores.{AStoreVersion, number, text, pair, order, version_at, IsBelow, IsIncreasing, IsOfKind, IsRankOf, KeepsOrder}

abbrev pair_cmp : ℕ × List ℕ → ℕ × List ℕ → Ordering
pair_cmp x y = ordering_then (nat_cmp x.0 y.0) (slice_cmp nat_cmp x.1 y.1)

pair_total : IsTotalOrder pair_cmp
pair_total = then_total (on_total (λ (p : ℕ × List ℕ). p.0) nat_cmp_total) (on_total (λ (p : ℕ × List ℕ). p.1) nat_list_cmp_total)

-- a version equals itself
order_self : (a : AStoreVersion) → order a a ≡ Some Equal
order_self (number n) = ap Some (tied_itself nat_cmp_total n)
order_self (text bytes) = ap Some (tied_itself nat_list_cmp_total bytes)
order_self (pair n bytes) = ap Some (tied_itself pair_total (n, bytes))

above : {K : Type 0} (cmp : K → K → Ordering) → IsTotalOrder cmp → (x y : K) → Some (cmp x y) ≡ Some Less → Some (cmp y x) ≡ Some Greater
above cmp total x y less = let is : cmp x y ≡ Less = cc in ap Some (total.antisymm y x ∙ ap ordering_reverse is)

-- what is below is not above
order_above : (a b : AStoreVersion) → IsBelow a b → order b a ≡ Some Greater
order_above (number m) (number n) less = above nat_cmp nat_cmp_total m n less
order_above (text a) (text b) less = above (slice_cmp nat_cmp) nat_list_cmp_total a b less
order_above (pair m a) (pair n b) less = above pair_cmp pair_total (m, a) (n, b) less
order_above _ _ less = absurd cc

module _ (all : List AStoreVersion) (increasing : IsIncreasing all) where
  -- a version at an earlier place is below
  earlier : (i j : ℕ) (a b : AStoreVersion) → slice_get all i ≡ Some a → slice_get all j ≡ Some b → i < j → IsBelow a b
  earlier i j a b first second before =
      let less = increasing i j a before (slice_get_within all j b second) in
      let one : get_or all i a ≡ a = get_or_from_slice_get all i a a first in
      let two : get_or all j a ≡ b = get_or_from_slice_get all j b a second in
      sym (ap (λ (v : AStoreVersion). order v (get_or all j a)) one ∙ ap (order a) two) ∙ less

  -- no version is at two places
  place_one : (i j : ℕ) (a : AStoreVersion) → slice_get all i ≡ Some a → slice_get all j ≡ Some a → i ≡ j
  place_one i j a first second = elim (cases_order i j) [
    | inr (inl less) ↦ absurd (let e = earlier i j a a first second less in let f = order_self a in cc)
    | inl is ↦ is
    | inr (inr more) ↦ absurd (let e = earlier j i a a second first more in let f = order_self a in cc)
  ]

  pub rank_one : (a : AStoreVersion) (v w : ℕ) → IsRankOf all a v → IsRankOf all a w → v ≡ w
  rank_one a v w p q = p.2 ∙ ap version_at (place_one p.0 q.0 a p.1 q.1) ∙ sym q.2

  -- each version has the kind of all
  pub kind_one : (a : AStoreVersion) (i : ℕ) → slice_get all i ≡ Some a → IsOfKind all a
  kind_one a i here k d inside none = elim (cases_order k i) [
    | inr (inl less) ↦ let e = earlier k i (get_or all k d) a (there k d inside) here less in cc
    | inl is ↦ let e = order_self a in let f : get_or all k d ≡ a = subst (λ (n : ℕ). get_or all n d ≡ a) (sym is) (get_or_from_slice_get all i a d here) in let g = ap (λ (v : AStoreVersion). order v a) f in cc
    | inr (inr more) ↦ let e = order_above a (get_or all k d) (earlier i k a (get_or all k d) here (there k d inside) more) in cc
  ]
    where
      there : (k : ℕ) (d : AStoreVersion) → k < length all → slice_get all k ≡ Some (get_or all k d)
      there k d inside = slice_get-get_or all k d inside

  pub keeps_order : KeepsOrder all
  keeps_order a b v w p q = ((same_one, one_same), (less_below, below_less))
    where
      same_one : v ≡ w → a ≡ b
      same_one e =
          let places : p.0 ≡ q.0 = omega (arith, p.2, q.2, e) in
          let first = p.1 in
          let second : slice_get all p.0 ≡ Some b = subst (λ (i : ℕ). slice_get all i ≡ Some b) (sym places) q.1 in
          cc

      one_same : a ≡ b → v ≡ w
      one_same e = rank_one a v w p (subst (λ (x : AStoreVersion). IsRankOf all x w) (sym e) q)

      less_below : v < w → IsBelow a b
      less_below less = earlier p.0 q.0 a b p.1 q.1 (omega (arith, p.2, q.2, less))

      below_less : IsBelow a b → v < w
      below_less below = elim (cases_order p.0 q.0) [
        | inr (inl less) ↦ omega (arith, p.2, q.2, less)
        | inl is ↦ absurd (let e = same_one (p.2 ∙ ap version_at is ∙ sym q.2) in let f = order_self a in let g = ap (order a) e in cc)
        | inr (inr more) ↦ absurd (let e = order_above b a (earlier q.0 p.0 b a q.1 p.1 more) in cc)
      ]
