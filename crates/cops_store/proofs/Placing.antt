-- Keys by their places, also after one more key, and pairs whose keys have places.
use Rattle.std.proofs.Common.{◌≡◌, ◌<◌, ◌≤◌, ℕ, zero, suc, ◌+◌, Bool, true, false, ◌&&◌, ◌||◌, not, cond, List, [], ◌∷◌, ◌++◌, length, Option, Some, is_some, refl, sym, ap, ◌∙◌, arith, eqb-true, eq-eqb}
use Rattle.std.specs.Bool.{one_answer}
use Rattle.std.specs.Cmp.{unsigned_Decides}
use Rattle.std.specs.List.{AllByRecursion, IsDistinct, position_or_len}
use Rattle.std.specs.Map.{keys_of, lookup}
use Rattle.std.specs.Prelude.{nat_eq, slice_index_or}
use Rattle.std.specs.Str.{bytes_eq}
use Rattle.std.proofs.lemmas.Slice.Eq.{bytes_eq-Decides}
use Rattle.std.proofs.lemmas.Map.Entries.{length-keys_of}
use Rattle.indexmap.specs.IndexMap.{insert_entry}
use Rattle.cops_store.specs.declared.place.KeyPlace.{KeyPlace}
use Rattle.cops_store.specs.Store.{has_pair}
use Rattle.cops_store.specs.Index.{Keys, Pairs, key_at, stored_at, settled_in}

apart : (a b : ℕ) → (a ≡ b → ⊥) → nat_eq a b ≡ false
apart a b h = go (nat_eq a b) refl
  where
    go : (t : Bool) → nat_eq a b ≡ t → t ≡ false
    go true e = absurd (h (eqb-true a b e))
    go false e = refl

both_more : (a b : ℕ) → nat_eq a b ≡ nat_eq (1 + a) (suc b)
both_more a b =
    one_answer (nat_eq a b) (nat_eq (1 + a) (suc b)) (unsigned_Decides a b)
    (λ e. (let h = eqb-true (1 + a) (suc b) e in omega (arith, h)), λ p. eq-eqb (1 + a) (suc b) (omega (arith, p)))

all_at : {A : Type 0} (P : A → Type 0) (xs : List A) (j : ℕ) (d : A) → AllByRecursion P xs → j < length xs → P (slice_index_or xs j d)
all_at P [] j d h l = absurd (omega (arith, l))
all_at P (x ∷ xs) zero d h l = h.0
all_at P (x ∷ xs) (suc j) d h l = all_at P xs j d h.1 (omega (arith, l))

-- among distinct keys, the place of a key is the one at which it occurs, or the length
at_only : (names : List (List ℕ)) (key : List ℕ) → IsDistinct bytes_eq names → (j : ℕ) → j < length names
    → bytes_eq key (slice_index_or names j []) ≡ nat_eq (position_or_len (bytes_eq key) names) j
unfolding IsDistinct
at_only [] key d j l = absurd (omega (arith, l))
at_only (x ∷ names) key d j l = go (bytes_eq key x) refl j l (λ i h. at_only names key d.1 i h)
  where
    rest_len : ℕ
    rest_len = position_or_len (bytes_eq key) names

    go : (b : Bool) → bytes_eq key x ≡ b → (j : ℕ) → j < length (x ∷ names) → ((i : ℕ) → i < length names → bytes_eq key (slice_index_or names i []) ≡ nat_eq rest_len i)
        → bytes_eq key (slice_index_or (x ∷ names) j []) ≡ nat_eq (cond (not b) (1 + rest_len) 0) j
    go true e zero l rest = e
    go true e (suc j) l rest =
        ap (λ k. bytes_eq k (slice_index_or names j [])) ((bytes_eq-Decides key x).0 e)
        ∙ all_at (λ y. bytes_eq x y ≡ false) names j [] d.0 (omega (arith, l))
        ∙ sym (apart 0 (suc j) (λ h. omega (arith, h)))
    go false e zero l rest = e ∙ sym (apart (1 + rest_len) 0 (λ h. omega (arith, h)))
    go false e (suc j) l rest = rest j (omega (arith, l)) ∙ both_more rest_len j

-- each pair's key has a place
abbrev pub ArePlaced : Keys → Pairs → Type 0
ArePlaced keys pairs = AllByRecursion (λ (p : KeyPlace × Option (List ℕ)). p.0.key < length keys) pairs

-- a key's pairs are those at its place
abbrev pub IsAt : Keys → List ℕ → ℕ → Type 0
IsAt keys key at = (j : ℕ) → j < length keys → bytes_eq key (key_at keys j) ≡ nat_eq at j

pub is_at : (keys : Keys) (key : List ℕ) → IsDistinct bytes_eq (keys_of keys) → IsAt keys key (position_or_len (bytes_eq key) (keys_of keys))
is_at keys key d j l = at_only (keys_of keys) key d j (rw (length-keys_of keys) l)

some_cond : {A : Type 0} (t : Bool) (x : A) (o : Option A) → is_some (cond t (Some x) o) ≡ (t || is_some o)
some_cond true x o = refl
some_cond false x o = refl

-- the pair at a key's place is found exactly where it is settled
pub found_pair : (keys : Keys) (pairs : Pairs) (key : List ℕ) (at version : ℕ) → IsAt keys key at → ArePlaced keys pairs
    → is_some (lookup (λ (q : KeyPlace). nat_eq at q.key && nat_eq version q.version) pairs) ≡ has_pair (settled_in keys pairs) (record { key = key; version = version })
found_pair keys [] key at version h placed = refl
found_pair keys (p ∷ pairs) key at version h placed =
    some_cond (nat_eq at p.0.key && nat_eq version p.0.version) p.1 (lookup (λ (q : KeyPlace). nat_eq at q.key && nat_eq version q.version) pairs)
    ∙ ap (λ b. (b && nat_eq version p.0.version) || is_some (lookup (λ (q : KeyPlace). nat_eq at q.key && nat_eq version q.version) pairs)) (sym (h p.0.key placed.0))
    ∙ ap (λ b. (bytes_eq key (key_at keys p.0.key) && nat_eq version p.0.version) || b) (found_pair keys pairs key at version h placed.1)

-- the keys with one more, which is appended unless it is there already
abbrev pub with_key : Keys → List ℕ → ℕ → Keys
with_key keys key shown = insert_entry bytes_eq keys key shown

abbrev pub place_in : Keys → List ℕ → ℕ
place_in keys key = position_or_len (bytes_eq key) (keys_of keys)

one_on : {A : Type 0} (x : A) (xs : List A) (n : ℕ) (d : A) → slice_index_or (x ∷ xs) (1 + n) d ≡ slice_index_or xs n d
one_on x xs n d = let e : 1 + n ≡ suc n = omega arith in ap (λ m. slice_index_or (x ∷ xs) m d) e

pub named : (keys : Keys) (key : List ℕ) (shown : ℕ) → key_at (with_key keys key shown) (place_in keys key) ≡ key
named [] key shown = refl
named (e ∷ keys) key shown = go (bytes_eq key e.0) refl (named keys key shown)
  where
    go : (b : Bool) → bytes_eq key e.0 ≡ b → key_at (with_key keys key shown) (place_in keys key) ≡ key
        → key_at (cond b ((e.0, shown) ∷ keys) (e ∷ with_key keys key shown)) (cond (not b) (1 + place_in keys key) 0) ≡ key
    go true h rest = sym ((bytes_eq-Decides key e.0).0 h)
    go false h rest = one_on e.0 (keys_of (with_key keys key shown)) (place_in keys key) [] ∙ rest

pub kept_at : (keys : Keys) (key : List ℕ) (shown j : ℕ) → j < length keys → key_at (with_key keys key shown) j ≡ key_at keys j
kept_at [] key shown j l = absurd (omega (arith, l))
kept_at (e ∷ keys) key shown j l = go (bytes_eq key e.0) j l (λ i h. kept_at keys key shown i h)
  where
    go : (b : Bool) (j : ℕ) → j < length (e ∷ keys) → ((i : ℕ) → i < length keys → key_at (with_key keys key shown) i ≡ key_at keys i)
        → key_at (cond b ((e.0, shown) ∷ keys) (e ∷ with_key keys key shown)) j ≡ key_at (e ∷ keys) j
    go true zero l rest = refl
    go true (suc j) l rest = refl
    go false zero l rest = refl
    go false (suc j) l rest = rest j (omega (arith, l))

pub within : (keys : Keys) (key : List ℕ) (shown : ℕ) → place_in keys key < length (with_key keys key shown)
within [] key shown = omega arith
within (e ∷ keys) key shown = go (bytes_eq key e.0) (within keys key shown)
  where
    go : (b : Bool) → place_in keys key < length (with_key keys key shown)
        → cond (not b) (1 + place_in keys key) 0 < length (cond b ((e.0, shown) ∷ keys) (e ∷ with_key keys key shown))
    go true h = omega arith
    go false h = omega (arith, h)

pub grown : (keys : Keys) (key : List ℕ) (shown : ℕ) → length (with_key keys key shown) ≡ length keys + cond (is_some (lookup (bytes_eq key) keys)) 0 1
grown [] key shown = refl
grown (e ∷ keys) key shown = go (bytes_eq key e.0) (grown keys key shown)
  where
    go : (b : Bool) → length (with_key keys key shown) ≡ length keys + cond (is_some (lookup (bytes_eq key) keys)) 0 1
        → length (cond b ((e.0, shown) ∷ keys) (e ∷ with_key keys key shown)) ≡ length (e ∷ keys) + cond (is_some (cond b (Some e.1) (lookup (bytes_eq key) keys))) 0 1
    go true h = omega arith
    go false h = omega (arith, h)

-- adding a key does not change the pairs' keys
pub settled_kept : (keys : Keys) (key : List ℕ) (shown : ℕ) (pairs : Pairs) → ArePlaced keys pairs → settled_in (with_key keys key shown) pairs ≡ settled_in keys pairs
settled_kept keys key shown [] placed = refl
settled_kept keys key shown (p ∷ pairs) placed =
    let here : stored_at (with_key keys key shown) p ≡ stored_at keys p = λ i. record { key = kept_at keys key shown p.0.key placed.0 i; value = p.1; version = p.0.version } in
    let rest = settled_kept keys key shown pairs placed.1 in
    λ i. here i ∷ rest i

pub placed_on : (keys keys' : Keys) (pairs : Pairs) → length keys ≤ length keys' → ArePlaced keys pairs → (p : KeyPlace × Option (List ℕ)) → p.0.key < length keys' → ArePlaced keys' (pairs ++ p ∷ [])
placed_on keys keys' [] h placed p l = (l, tt)
placed_on keys keys' (q ∷ pairs) h placed p l = (let a = placed.0 in omega (arith, a, h), placed_on keys keys' pairs h placed.1 p l)
