-- A function of distinct writes that changes at one of them.
use Rattle.std.proofs.Common.{◌≡◌, ◌+◌, ◌<◌, ◌≤◌, ℕ, suc, Bool, true, false, cond, nat_lt, List, [], ◌∷◌, length, map, set, get_or, Option, None, Some, refl, sym, ap, ◌∙◌, subst, arith}
use Rattle.std.specs.Prelude.{not}
use Rattle.std.specs.Cmp.{IsEquivalence, and_equiv, first_so, on_equiv, second_so}
use Rattle.std.specs.Cmp.Lexicographic.{nat_list_eq_equiv, options_equiv}
use Rattle.std.specs.List.{AllByRecursion, IsDistinct, position, position_or_len}
use Rattle.std.proofs.lemmas.List.{get_or-map}
use Rattle.std.proofs.lemmas.List.Quantifiers.{position-Some}
use Rattle.std.proofs.lemmas.Slice.Eq.{bytes_eq-Decides}
use borrow.Author.Tests.{ltb-true, ltb-false}
use Rattle.cops_outcomes.specs.Outcomes.{same_content, same_write}
use Rattle.cops_outcomes.specs.declared.write.Write.{Write}

pub writes_equiv : IsEquivalence same_write
writes_equiv = and_equiv (on_equiv (λ (w : Write). w.key) nat_list_eq_equiv) (on_equiv (λ (w : Write). w.content) (options_equiv nat_list_eq_equiv))

same_content_is : (a b : Option (List ℕ)) → same_content a b ≡ true → a ≡ b
same_content_is None None e = refl
same_content_is None (Some b) e = absurd cc
same_content_is (Some a) None e = absurd cc
same_content_is (Some a) (Some b) e = ap Some ((bytes_eq-Decides a b).0 e)

pub same_is : (a b : Write) → same_write a b ≡ true → a ≡ b
same_is a b e =
    let key : a.key ≡ b.key = (bytes_eq-Decides a.key b.key).0 (first_so _ _ e) in
    let content : a.content ≡ b.content = same_content_is a.content b.content (second_so _ _ e) in
    λ i. record { key = key i; content = content i }

set_on : {A : Type 0} (x : A) (xs : List A) (n : ℕ) (a : A) → set (x ∷ xs) (1 + n) a ≡ x ∷ set xs n a
set_on x xs n a = let e : 1 + n ≡ suc n = omega arith in ap (λ m. set (x ∷ xs) m a) e

module _ (w : Write) (xs : List Write) where
  abbrev at : ℕ
  at = position_or_len (same_write w) xs

  position_at : (i : ℕ) → Some i ≡ position (same_write w) xs → (i ≡ at) × (at < length xs)
  position_at i e = go (nat_lt at (length xs)) refl e
    where
      go : (b : Bool) → nat_lt at (length xs) ≡ b → Some i ≡ cond b (Some at) None → (i ≡ at) × (at < length xs)
      go true t h = (cc, ltb-true _ _ t)
      go false t h = absurd cc

  position_none : None ≡ position (same_write w) xs → length xs ≤ at
  position_none e = go (nat_lt at (length xs)) refl e
    where
      go : (b : Bool) → nat_lt at (length xs) ≡ b → None ≡ cond b (Some at) None → length xs ≤ at
      go true t h = absurd cc
      go false t h = ltb-false _ _ t

module _ {A : Type 0} (f g : Write → A) where
  pub map_agree : ((x : Write) → g x ≡ f x) → (xs : List Write) → map g xs ≡ map f xs
  map_agree same [] = refl
  map_agree same (x ∷ xs) = let here = same x in let rest = map_agree same xs in cc

  module _ (w : Write) (kept : (x : Write) → same_write w x ≡ false → g x ≡ f x) where
    kept_all : (xs : List Write) → AllByRecursion (λ x. same_write w x ≡ false) xs → map g xs ≡ map f xs
    kept_all [] h = refl
    kept_all (x ∷ xs) h = let here = kept x h.0 in let rest = kept_all xs h.1 in cc

    absent : (xs : List Write) → length xs ≤ at w xs → map g xs ≡ map f xs
    absent [] h = refl
    absent (x ∷ xs) h = go (same_write w x) refl h (λ l. absent xs l)
      where
        go : (b : Bool) → same_write w x ≡ b → length (x ∷ xs) ≤ cond (not b) (1 + at w xs) 0 → (length xs ≤ at w xs → map g xs ≡ map f xs) → map g (x ∷ xs) ≡ map f (x ∷ xs)
        go true e h rest = absurd (omega (arith, h))
        go false e h rest = let here = kept x e in let others = rest (omega (arith, h)) in cc

    changed : (xs : List Write) → IsDistinct same_write xs → at w xs < length xs → map g xs ≡ set (map f xs) (at w xs) (g w)
    unfolding IsDistinct
    changed [] d h = absurd (omega (arith, h))
    changed (x ∷ xs) d h = go (same_write w x) refl h d.0 (λ l. changed xs d.1 l)
      where
        go : (b : Bool) → same_write w x ≡ b → cond (not b) (1 + at w xs) 0 < length (x ∷ xs) → AllByRecursion (λ y. same_write x y ≡ false) xs
            → (at w xs < length xs → map g xs ≡ set (map f xs) (at w xs) (g w))
            → map g (x ∷ xs) ≡ set (map f (x ∷ xs)) (cond (not b) (1 + at w xs) 0) (g w)
        go true e h others rest =
            let is : x ≡ w = sym (same_is w x e) in
            let here : g x ≡ g w = ap g is in
            let there = kept_all xs (subst (λ (y : Write). AllByRecursion (λ z. same_write y z ≡ false) xs) is others) in
            cc
        go false e h others rest =
            let here = kept x e in
            let there = rest (omega (arith, h)) in
            let on = set_on (f x) (map f xs) (at w xs) (g w) in
            cc

    -- it changes at none of these
    pub map_absent : (xs : List Write) → None ≡ position (same_write w) xs → map g xs ≡ map f xs
    map_absent xs e = absent xs (position_none w xs e)

    -- it changes at this place
    pub map_changed : (xs : List Write) (i : ℕ) → IsDistinct same_write xs → Some i ≡ position (same_write w) xs → map g xs ≡ set (map f xs) i (g w)
    map_changed xs i d e =
        let p = position_at w xs i e in
        let is = p.0 in
        let all = changed xs d p.1 in
        all ∙ ap (λ (n : ℕ). set (map f xs) n (g w)) (sym is)

pub within : (w : Write) (xs : List Write) (i : ℕ) → Some i ≡ position (same_write w) xs → i < length xs
within w xs i e = let p = position_at w xs i e in omega (arith, p.0, p.1)

-- what a function is at its place
pub there : {A : Type 0} (f : Write → A) (w : Write) (xs : List Write) (i : ℕ) (d : A) → Some i ≡ position (same_write w) xs → get_or (map f xs) i d ≡ f w
there f w xs i d e =
    let p = position-Some (same_write w) xs i w (sym e) in
    let inside = within w xs i e in
    let is : w ≡ get_or xs i w = same_is w (get_or xs i w) p.1 in
    get_or-map f xs i w d inside ∙ ap f (sym is)
