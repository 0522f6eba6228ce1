-- Versions of one kind, as lists of keys in their order.
use Rattle.std.proofs.Common.{◌≡◌, ◌≢◌, ◌<◌, ℕ, List, [], ◌∷◌, length, map, get_or, refl, sym, ap, ◌∙◌, arith}
use Rattle.std.specs.Prelude.{Option, Some, None, slice_get, IsTrue, IfNone, IfSome, ◌↔◌, ◌==◌}
use Rattle.std.specs.Cmp.{IsTotalOrder}
use Rattle.std.specs.Cmp.Lexicographic.{slice_cmp}
use Rattle.std.specs.List.{AllPairs, Contains, HoldsAt}
use Rattle.std.specs.Ordering.{nat_cmp, ordering_then}
use Rattle.std.specs.declared.cmp.Ordering.{Ordering}
use Rattle.std.specs.declared.cmp.Ordering.TheVariants.{Less, Equal, Greater}
use borrow.Author.Tests.{eqb-true}
use Rattle.std.proofs.lemmas.Cmp.{tied_itself}
use Rattle.std.proofs.lemmas.List.{get_or-map, length-map}
use Rattle.std.proofs.lemmas.Map.Lookups.{exact_bytes, exact_unsigned}
use Rattle.std.proofs.lemmas.Option.{slice_get-get_or}
use Rattle.smallvec.specs.SmallVec.{SmallVec}
use Rattle.cops_import.specs.Stores.{AStoreVersion, number, text, pair, order, stored, IsIncreasing, IsOfKind}
use Rattle.cops_import.specs.declared.store_version.StoreVersion.{StoreVersion}
use Rattle.cops_import.specs.declared.store_version.StoreVersion.TheVariants as rust

-- keys of a kind, which `f` takes to versions and `cmp` compares
module _ {K : Type 0} (f : K → AStoreVersion) (cmp : K → K → Ordering) (same : (x y : K) → order (f x) (f y) ≡ Some (cmp x y)) where
  -- the version at a place is that of the key there
  at_place : (xs : List K) (i : ℕ) (d : AStoreVersion) → i < length (map f xs) → (x : K) × (get_or (map f xs) i d ≡ f (get_or xs i x))
  at_place [] i d inside = absurd (omega arith)
  at_place (x ∷ xs) i d inside = (x, get_or-map f (x ∷ xs) i x d (omega (arith, inside, length-map (x ∷ xs) f)))

  pub increasing_of : (xs : List K) → AllPairs (λ a b. cmp a b ≡ Less) xs → IsIncreasing (map f xs)
  increasing_of xs h i j d before inside =
      let long = length-map xs f in
      let first = at_place xs i d (omega arith) in
      let second = get_or-map f xs j first.0 d (omega arith) in
      let less = h i j first.0 before (omega arith) in
      ap (λ (v : AStoreVersion). order v (get_or (map f xs) j d)) first.1 ∙ ap (λ (v : AStoreVersion). order (f (get_or xs i first.0)) v) second
      ∙ same (get_or xs i first.0) (get_or xs j first.0) ∙ ap Some less

  pub increasing_back : (xs : List K) → IsIncreasing (map f xs) → AllPairs (λ a b. cmp a b ≡ Less) xs
  increasing_back xs h i j d before inside =
      let long = length-map xs f in
      let first = get_or-map f xs i d (f d) (omega arith) in
      let second = get_or-map f xs j d (f d) (omega arith) in
      let less : order (get_or (map f xs) i (f d)) (get_or (map f xs) j (f d)) ≡ Some Less = h i j (f d) before (omega arith) in
      let both : order (f (get_or xs i d)) (f (get_or xs j d)) ≡ Some Less =
      sym (ap (λ (v : AStoreVersion). order v (get_or (map f xs) j (f d))) first ∙ ap (λ (v : AStoreVersion). order (f (get_or xs i d)) v) second) ∙ less in
      let is = same (get_or xs i d) (get_or xs j d) in
      let e : Some (cmp (get_or xs i d) (get_or xs j d)) ≡ Some Less = sym is ∙ both in
      cc

  pub of_kind : (xs : List K) (y : K) → IsOfKind (map f xs) (f y)
  of_kind xs y i d inside none =
      let here = at_place xs i d inside in
      let is = same (get_or xs i here.0) y in
      let e : order (f (get_or xs i here.0)) (f y) ≡ None = sym (ap (λ (v : AStoreVersion). order v (f y)) here.1) ∙ none in
      let no : Some (cmp (get_or xs i here.0) y) ≡ None = sym is ∙ e in
      cc

  place_some : (xs : List K) (y : K) (place : ℕ) → ((x y : K) → cmp x y ≡ Equal → f x ≡ f y) → place < length xs → HoldsAt (λ k. cmp k y ≡ Equal) xs place
      → slice_get (map f xs) place ≡ Some (f y)
  place_some xs y place exact inside holds =
      let long = length-map xs f in
      slice_get-get_or (map f xs) place (f y) (omega arith) ∙ ap Some (get_or-map f xs place y (f y) inside ∙ exact (get_or xs place y) y (holds y))

  place_none : (xs : List K) (y : K) → IsTotalOrder cmp → ((place : ℕ) → place < length xs → HoldsAt (λ k. cmp k y ≢ Equal) xs place) → Contains (map f xs) (f y) → ⊥
  place_none xs y total none (i, inside, is) =
      let within : i < length xs = omega (arith, inside, length-map xs f) in
      let here = get_or-map f xs i y (f y) within in
      let e : order (f (get_or xs i y)) (f y) ≡ order (f y) (f y) = ap (λ (v : AStoreVersion). order v (f y)) (sym here ∙ is) in
      let tied : Some (cmp (get_or xs i y) y) ≡ Some Equal = sym (same (get_or xs i y) y) ∙ e ∙ same y y ∙ ap Some (tied_itself total y) in
      none i within y cc

  -- what a search for a key found
  pub found : (xs : List K) (y : K) (r : Option ℕ) → ((x y : K) → cmp x y ≡ Equal → f x ≡ f y) → IfSome r (λ place. (place < length xs) × HoldsAt (λ k. cmp k y ≡ Equal) xs place)
      → IfSome r (λ place. slice_get (map f xs) place ≡ Some (f y))
  found xs y None exact h = tt
  found xs y (Some place) exact h = place_some xs y place exact h.0 h.1

  pub absent : (xs : List K) (y : K) (r : Option ℕ) → IsTotalOrder cmp → IfNone r ((place : ℕ) → place < length xs → HoldsAt (λ k. cmp k y ≢ Equal) xs place)
      → IfNone r (Contains (map f xs) (f y) → ⊥)
  absent xs y None total h = place_none xs y total h
  absent xs y (Some place) total h = tt

  pub no_place : (xs : List K) (v : AStoreVersion) → ((x : K) → order (f x) v ≡ None) → Contains (map f xs) v → ⊥
  no_place xs v other (i, inside, is) =
      let here = at_place xs i v inside in
      let x = get_or xs i here.0 in
      let e : order (f x) (f x) ≡ order (f x) v = ap (order (f x)) (sym here.1 ∙ is) in
      let no : Some (cmp x x) ≡ None = sym (same x x) ∙ e ∙ other x in
      cc

-- a version of another kind, where there are `count` keys
pub other_kind : {K : Type 0} (f : K → AStoreVersion) (v : AStoreVersion) (xs : List K) (count : ℕ) → count ≡ length (map f xs) → ((x : K) → order (f x) v ≡ None)
    → IsTrue (count == 0) ↔ IsOfKind (map f xs) v
other_kind f v [] count is other = (λ none i d inside. absurd (omega arith), λ kind. rw is refl)
other_kind f v (x ∷ xs) count is other = (λ none. absurd (omega (arith, eqb-true count 0 none, is)), λ kind. absurd (kind 0 v (omega arith) (other x)))

-- ---- the three kinds

abbrev pub text_of : SmallVec ℕ → AStoreVersion
text_of t = text t.items

abbrev pub pair_of : ℕ × SmallVec ℕ → AStoreVersion
pair_of p = pair p.0 p.1.items

pub exact_numbers : (x y : ℕ) → nat_cmp x y ≡ Equal → number x ≡ number y
exact_numbers x y e = ap number (exact_unsigned x y e)

pub exact_texts : (x y : SmallVec ℕ) → slice_cmp nat_cmp x.items y.items ≡ Equal → text_of x ≡ text_of y
exact_texts x y e = ap text (exact_bytes x.items y.items e)

-- both parts are equal
both_equal : (a b : Ordering) → ordering_then a b ≡ Equal → (a ≡ Equal) × (b ≡ Equal)
both_equal Less b e = absurd cc
both_equal Equal b e = (refl, e)
both_equal Greater b e = absurd cc

pub exact_pairs : (x y : ℕ × SmallVec ℕ) → ordering_then (nat_cmp x.0 y.0) (slice_cmp nat_cmp x.1.items y.1.items) ≡ Equal → pair_of x ≡ pair_of y
exact_pairs x y e =
    let parts = both_equal (nat_cmp x.0 y.0) (slice_cmp nat_cmp x.1.items y.1.items) e in
    let numbers : x.0 ≡ y.0 = exact_unsigned x.0 y.0 parts.0 in
    let texts : x.1.items ≡ y.1.items = exact_bytes x.1.items y.1.items parts.1 in
    cc

pub not_number : (v : StoreVersion) → ((x : ℕ) → v ≡ rust.Number x → ⊥) → (x : ℕ) → order (number x) (stored v) ≡ None
not_number (rust.Number n) other x = absurd (other n refl)
not_number (rust.Text t) other x = refl
not_number (rust.Pair p) other x = refl

pub not_text : (v : StoreVersion) → ((x : SmallVec ℕ) → v ≡ rust.Text x → ⊥) → (x : SmallVec ℕ) → order (text_of x) (stored v) ≡ None
not_text (rust.Number n) other x = refl
not_text (rust.Text t) other x = absurd (other t refl)
not_text (rust.Pair p) other x = refl

pub not_pair : (v : StoreVersion) → ((x : ℕ × SmallVec ℕ) → v ≡ rust.Pair x → ⊥) → (x : ℕ × SmallVec ℕ) → order (pair_of x) (stored v) ≡ None
not_pair (rust.Number n) other x = refl
not_pair (rust.Text t) other x = refl
not_pair (rust.Pair p) other x = absurd (other p refl)
