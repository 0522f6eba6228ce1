-- Lists of different pairs, and adding one more.
use Rattle.std.proofs.Common.{◌≡◌, ℕ, ◌<◌, ◌≤◌, Bool, true, false, ◌||◌, List, [], ◌∷◌, ◌++◌, if◌then◌else◌, Option, None, Some, is_none, length, refl, ap, ◌∙◌, arith, rules, length-append}
use Rattle.std.specs.Cmp.{IsEquivalence}
use Rattle.std.specs.Cmp.Rules.{comparing}
use Rattle.std.specs.List.{AllByRecursion, IsDistinct, list_any}
use Rattle.cops_types.specs.declared.dep.Dep.{Dep}
use Rattle.cops_types.specs.declared.format.Format.{Format}
use Rattle.cops_types.specs.declared.format.Format.TheVariants.{One, Two}
use Rattle.cops_types.specs.declared.limits.TheConstants.{MAX_DEPS}
use Rattle.cops_types.specs.Dep.{is_same_dep}
use Rattle.cops_types.specs.Format.{most_deps}
use Rattle.cops_context.specs.Context.{has_pair, with_pair}
use Rattle.cops_context.specs.Kept.{IsContext, and_beside}

module _ {K : Type 0} {e : K → K → Bool} (o : IsEquivalence e) where
  each_push : (P : K → Type 0) (xs : List K) (y : K) → AllByRecursion P xs → P y → AllByRecursion P (xs ++ y ∷ [])
  each_push P [] y h k = (k, tt)
  each_push P (x ∷ xs) y h k = (h.0, each_push P xs y h.1 k)

  last_of : (P : K → Type 0) (xs : List K) (y : K) → AllByRecursion P (xs ++ y ∷ []) → P y
  last_of P [] y h = h.0
  last_of P (x ∷ xs) y h = last_of P xs y h.1

  or_false : (a b : Bool) → (a || b) ≡ false → (a ≡ false) × (b ≡ false)
  or_false true b h = absurd cc
  or_false false b h = (refl, h)

  -- adding a new key at the end keeps the keys different
  distinct_push : (xs : List K) (y : K) → IsDistinct e xs → list_any (e y) xs ≡ false → IsDistinct e (xs ++ y ∷ [])
  unfolding IsDistinct
  distinct_push [] y h k = (tt, tt)
  distinct_push (x ∷ xs) y h k =
      let none = or_false (e y x) (list_any (e y) xs) k in
      (each_push (λ z. e x z ≡ false) xs y h.0 (o.symm x y ∙ none.0), distinct_push xs y h.1 none.1)

  -- the last key is none of those before it
  absent_before : (xs : List K) (y : K) → IsDistinct e (xs ++ y ∷ []) → list_any (e y) xs ≡ false
  unfolding IsDistinct
  absent_before [] y h = refl
  absent_before (x ∷ xs) y h =
      let here : e y x ≡ false = o.symm y x ∙ last_of (λ z. e x z ≡ false) xs y h.0 in
      ap (λ b. b || list_any (e y) xs) here ∙ absent_before xs y h.1

-- equality of pairs is an equivalence
same_pairs : IsEquivalence is_same_dep
same_pairs = search (comparing, rules) depth 9

-- the limit of each format's contexts is at least 1, and at most that of dependencies
pub deps_within : (format : Format) → (0 < most_deps format) × (most_deps format ≤ MAX_DEPS)
deps_within One = (omega arith, omega arith)
deps_within Two = (omega arith, omega arith)

-- the pairs of a context are dependencies of some format
pub are_deps : (format : Format) (pairs : List Dep) → IsContext (most_deps format) pairs → (length pairs ≤ MAX_DEPS) × IsDistinct is_same_dep pairs
are_deps format pairs h = (omega (arith, h.few, (deps_within format).1), h.distinct)

-- a context with a new pair
pub context_push : (most : ℕ) (pairs : List Dep) (pair : Dep) → IsContext most pairs → has_pair pairs pair ≡ false → length pairs < most → IsContext most (pairs ++ pair ∷ [])
context_push most pairs pair h new few = record {
  few = omega (arith, length-append pairs (pair ∷ []));
  distinct = distinct_push same_pairs pairs pair h.distinct new;
}

-- the last pair of a context is none of those before it
pub new_last : (most : ℕ) (pairs : List Dep) (pair : Dep) → IsContext most (pairs ++ pair ∷ []) → with_pair pairs pair ≡ pairs ++ pair ∷ []
new_last most pairs pair h = ap (λ b. if b then pairs else pairs ++ pair ∷ []) (absent_before same_pairs pairs pair h.distinct)

-- storing a new pair next to the set, if there is none yet
pub context_beside : (most : ℕ) (pairs : List Dep) (beside : Option Dep) (pair : Dep) → is_none beside ≡ true → has_pair (and_beside pairs beside) pair ≡ false
    → length (and_beside pairs beside) < most → IsContext most (and_beside pairs beside) → IsContext most (pairs ++ pair ∷ [])
context_beside most pairs None pair empty new few h = context_push most pairs pair h new few
context_beside most pairs (Some other) pair empty new few h = absurd cc
