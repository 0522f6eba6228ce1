-- A loop over a list in order that collects the elements with a property.
use Rattle.std.proofs.Common.{◌<◌, ◌+◌, ◌↔◌, ℕ, List, [], ◌∷◌, ◌++◌, length, get_or, take, sym, subst, inl, inr, Contains, AllPairs}
use Rattle.std.proofs.lemmas.List.Quantifiers.{all_pairs_push}
use Rattle.std.proofs.lemmas.List.Elements.{Contains-append_left, Contains-push, Contains-push_cases, Contains-get_or}
use Rattle.std.proofs.lemmas.List.{take_more}
use Rattle.cops_audit.proofs.Collect.{earlier}

-- exactly the elements with the property among these, in order
pub record HasThose {A : Type 0} (P : A → Type 0) (Le : A → A → Type 0) (xs out : List A) : Type 0 where
  pub members : (x : A) → Contains out x ↔ (Contains xs x × P x)
  pub in_order : AllPairs Le out

module _ {A : Type 0} (P : A → Type 0) (Le : A → A → Type 0) where
  module _ (xs : List A) (in_order : AllPairs Le xs) (i : ℕ) (inside : i < length xs) (out : List A) (d : A) (those : HasThose P Le (take i xs) out) where
    pub those_skip : (P (get_or xs i d) → ⊥) → HasThose P Le (take (i + 1) xs) out
    those_skip none = subst (λ ys. HasThose P Le ys out) (sym (take_more xs i d inside))
        record {
          members = λ x. (
            (λ at. let o = (those.members x).0 at in (Contains-append_left (take i xs) (get_or xs i d ∷ []) x o.0, o.1)),
            (λ w. elim (Contains-push_cases (take i xs) (get_or xs i d) x w.0) [
              | inl old ↦ (those.members x).1 (old, w.1)
              | inr same ↦ absurd (none (subst P (sym same) w.1))
            ]),
          );
          in_order = those.in_order;
        }

    pub those_push : P (get_or xs i d) → HasThose P Le (take (i + 1) xs) (out ++ get_or xs i d ∷ [])
    those_push holds = subst (λ ys. HasThose P Le ys (out ++ get_or xs i d ∷ [])) (sym (take_more xs i d inside))
        record {
          members = λ x. (
            (λ at. elim (Contains-push_cases out (get_or xs i d) x at) [
              | inl old ↦ let o = (those.members x).0 old in (Contains-append_left (take i xs) (get_or xs i d ∷ []) x o.0, o.1)
              | inr same ↦ (subst (λ y. Contains (take i xs ++ get_or xs i d ∷ []) y) same (Contains-push (take i xs) (get_or xs i d)), subst P same holds)
            ]),
            (λ w. elim (Contains-push_cases (take i xs) (get_or xs i d) x w.0) [
              | inl old ↦ Contains-append_left out (get_or xs i d ∷ []) x ((those.members x).1 (old, w.1))
              | inr same ↦ subst (λ y. Contains (out ++ get_or xs i d ∷ []) y) same (Contains-push out (get_or xs i d))
            ]),
          );
          in_order = all_pairs_push Le out (get_or xs i d) those.in_order
              (λ k e in_k. earlier Le xs i d in_order inside (get_or out k e) ((those.members (get_or out k e)).0 (Contains-get_or out k e in_k)).0);
        }
