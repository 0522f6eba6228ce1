-- What an equality that returns true says of lists, pairs and operations.
use Rattle.std.proofs.Common.{◌≡◌, ℕ, List, [], ◌∷◌, Bool, true, false, not, ◌==◌, refl, sym, ap₂, eqb-true, eq-eqb}
use Rattle.std.proofs.lemmas.Bool.{and_parts, and_from}
use Rattle.std.specs.Cmp.Lexicographic.{pointwise, same_text}
use Rattle.std.proofs.lemmas.Cmp.{nat_list_eq_equiv}
use Rattle.cops_types.specs.declared.dep.Dep.{Dep}
use Rattle.cops_types.specs.Dep.{is_same_dep}

pub pointwise_true : {X : Type 0} (e : X → X → Bool) → ((a b : X) → e a b ≡ true → a ≡ b) → (xs ys : List X) → pointwise e xs ys ≡ true → xs ≡ ys
pointwise_true e one [] [] h = refl
pointwise_true e one [] (y ∷ ys) h = cc
pointwise_true e one (x ∷ xs) [] h = cc
pointwise_true {X} e one (x ∷ xs) (y ∷ ys) h =
    let parts = and_parts (e x y) _ h in
    ap₂ (λ (a : X) (b : List X). a ∷ b) (one x y parts.0) (pointwise_true e one xs ys parts.1)

pub pointwise_refl : {X : Type 0} (e : X → X → Bool) → ((a : X) → e a a ≡ true) → (xs : List X) → pointwise e xs xs ≡ true
pointwise_refl e one [] = refl
pointwise_refl e one (x ∷ xs) = and_from (e x x) _ (one x) (pointwise_refl e one xs)

pub same_pair_true : (a b : Dep) → is_same_dep a b ≡ true → a ≡ b
same_pair_true a b h =
    let parts = and_parts (pointwise ◌==◌ a.key b.key) _ h in
    let keys : a.key ≡ b.key = same_text a.key b.key (sym parts.0) in
    let versions : a.version ≡ b.version = eqb-true a.version b.version parts.1 in
    ap₂ (λ (k : List ℕ) (v : ℕ). let d : Dep = record { key = k; version = v } in d) keys versions

pub same_pair_refl : (a : Dep) → is_same_dep a a ≡ true
same_pair_refl a = and_from (pointwise ◌==◌ a.key a.key) _ (nat_list_eq_equiv.refl a.key) (eq-eqb a.version a.version refl)

pub not_false : (b : Bool) → not b ≡ false → b ≡ true
not_false true h = refl
not_false false h = cc
