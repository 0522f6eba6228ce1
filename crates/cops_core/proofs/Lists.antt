-- Elements of lists, equality of pairs, and adding an element at the end.
use Rattle.std.proofs.Common.{◌≡◌, ℕ, zero, suc, ◌<◌, ◌⊎◌, inl, inr, List, [], ◌∷◌, ◌++◌, Bool, true, false, cond, Some, length, set, Contains, slice_get, refl, ap, ◌∙◌, arith, replicate}
use Rattle.std.specs.List.{list_any, list_all}
use Rattle.std.proofs.lemmas.Option.{slice_get-get_or}
use Rattle.std.proofs.lemmas.Bool.{and_parts, or_cases}
use Rattle.std.proofs.lemmas.List.Elements.{Contains-append_left, Contains-append_right, Contains-push, Contains-push_cases, Contains-append_cases}
use Rattle.cops_types.specs.declared.dep.Dep.{Dep}
use Rattle.cops_types.specs.Dep.{is_same_dep}
use Rattle.cops_context.specs.Context.{with_pair}
use Rattle.cops_node.proofs.Same.{same_pair_true}

pub contains_none : {X : Type 0} (x : X) → Contains [] x → ⊥
contains_none x h = omega (arith, h.1)

pub contains_one : {X : Type 0} (y x : X) → Contains (y ∷ []) x → y ≡ x
contains_one y x h = elim (Contains-push_cases [] y x h) [ inl a ↦ absurd (contains_none x a) | inr e ↦ e ]

pub contains_cases : {X : Type 0} (y : X) (xs : List X) (x : X) → Contains (y ∷ xs) x → (y ≡ x) ⊎ Contains xs x
contains_cases y xs x h = elim (Contains-append_cases (y ∷ []) xs x h) [ inl a ↦ inl (contains_one y x a) | inr b ↦ inr b ]

pub contains_head : {X : Type 0} (x : X) (xs : List X) → Contains (x ∷ xs) x
contains_head x xs = Contains-append_left (x ∷ []) xs x (Contains-push [] x)

pub contains_tail : {X : Type 0} (y : X) (xs : List X) (x : X) → Contains xs x → Contains (y ∷ xs) x
contains_tail y xs x h = Contains-append_right (y ∷ []) xs x h

pub get_pushed : {X : Type 0} (xs : List X) (y : X) (i : ℕ) (z : X) → slice_get (xs ++ y ∷ []) i ≡ Some z → (slice_get xs i ≡ Some z) ⊎ ((i ≡ length xs) × (z ≡ y))
get_pushed [] y zero z h = inr (refl, cc)
get_pushed [] y (suc i) z h = cc
get_pushed (x ∷ xs) y zero z h = inl h
get_pushed (x ∷ xs) y (suc i) z h = elim (get_pushed xs y i z h) [ inl a ↦ inl a | inr b ↦ inr (ap suc b.0, b.1) ]

pub get_kept : {X : Type 0} (xs : List X) (y : X) (i : ℕ) (z : X) → slice_get xs i ≡ Some z → slice_get (xs ++ y ∷ []) i ≡ Some z
get_kept [] y i z h = cc
get_kept (x ∷ xs) y zero z h = h
get_kept (x ∷ xs) y (suc i) z h = get_kept xs y i z h

pub get_last : {X : Type 0} (xs : List X) (y : X) → slice_get (xs ++ y ∷ []) (length xs) ≡ Some y
get_last [] y = refl
get_last (x ∷ xs) y = get_last xs y

-- the pair of this key and this version
abbrev pub at_version : List ℕ → ℕ → Dep
at_version k v = record { key = k; version = v }

pub any_pair : (p : Dep) (ps : List Dep) → list_any (is_same_dep p) ps ≡ true → Contains ps p
any_pair p [] h = cc
any_pair p (q ∷ ps) h = elim (or_cases (is_same_dep p q) _ h) [
  | inl e ↦ (let same = same_pair_true p q e in contains_eq same)
  | inr r ↦ contains_tail q ps p (any_pair p ps r)
]
  where
    contains_eq : p ≡ q → Contains (q ∷ ps) p
    contains_eq e = rw e (contains_head q ps)

pub gain_old : (ps : List Dep) (p q : Dep) → Contains ps q → Contains (with_pair ps p) q
gain_old ps p q h = elim (list_any (is_same_dep p) ps) as (λ b. Contains (cond b ps (ps ++ p ∷ [])) q) [ true ↦ h | false ↦ Contains-append_left ps (p ∷ []) q h ]

pub gain_new : (ps : List Dep) (p : Dep) → Contains (with_pair ps p) p
gain_new ps p = go (list_any (is_same_dep p) ps) refl
  where
    go : (b : Bool) → list_any (is_same_dep p) ps ≡ b → Contains (cond b ps (ps ++ p ∷ [])) p
    go true e = any_pair p ps e
    go false e = Contains-push ps p

pub gain_cases : (ps : List Dep) (p q : Dep) → Contains (with_pair ps p) q → Contains ps q ⊎ (p ≡ q)
gain_cases ps p q = go (list_any (is_same_dep p) ps)
  where
    go : (b : Bool) → Contains (cond b ps (ps ++ p ∷ [])) q → Contains ps q ⊎ (p ≡ q)
    go true h = inl h
    go false h = Contains-push_cases ps p q h

pub not_marked : (n i : ℕ) → slice_get (replicate n false) i ≡ Some true → ⊥
not_marked zero i h = cc
not_marked (suc n) zero h = cc
not_marked (suc n) (suc i) h = not_marked n i h

pub get_set_cases : {X : Type 0} (xs : List X) (i : ℕ) (y : X) (j : ℕ) (z : X) → slice_get (set xs i y) j ≡ Some z → (slice_get xs j ≡ Some z) ⊎ (j ≡ i)
get_set_cases [] i y j z h = inl h
get_set_cases (x ∷ xs) zero y zero z h = inr refl
get_set_cases (x ∷ xs) zero y (suc j) z h = inl h
get_set_cases (x ∷ xs) (suc i) y zero z h = inl h
get_set_cases (x ∷ xs) (suc i) y (suc j) z h = elim (get_set_cases xs i y j z h) [ inl a ↦ inl a | inr b ↦ inr (ap suc b) ]

pub all_true_at : (marks : List Bool) (i : ℕ) → list_all (λ m. m) marks ≡ true → i < length marks → slice_get marks i ≡ Some true
all_true_at [] i h l = absurd (omega (arith, l))
all_true_at (m ∷ marks) zero h l = ap Some (and_parts m _ h).0
all_true_at (m ∷ marks) (suc i) h l = all_true_at marks i (and_parts m _ h).1 (omega (arith, l))

-- the index of an element
pub place_in : {X : Type 0} (xs : List X) (x : X) → Contains xs x → (i : ℕ) × (i < length xs) × (slice_get xs i ≡ Some x)
place_in xs x h = (h.0, h.1, slice_get-get_or xs h.0 x h.1 ∙ ap Some h.2)
