-- What a key shows, and how many keys do, after one more pair.
use Rattle.std.proofs.Common.{◌≡◌, ℕ, ◌+◌, Bool, true, false, ◌&&◌, ◌||◌, ◌==◌, cond, if◌then◌else◌, nat_lt, List, [], ◌∷◌, ◌++◌, length, Option, None, Some, is_some, refl, sym, ap, ◌∙◌, arith}
use borrow.Author.Tests.{ltb-true, ltb-false}
use Rattle.std.specs.Cmp.Lexicographic.{nat_list_eq_equiv}
use Rattle.std.specs.Str.{bytes_eq}
use Rattle.std.proofs.lemmas.Slice.Eq.{bytes_eq-Decides}
use Rattle.cops_store.specs.Store.{Stored, newer, shown, has_pair}
use Rattle.cops_store.specs.Settling.{has_key, shown_keys}

-- the pair with the greater version, of the one that is shown and one that is settled after it
abbrev pub later : Option Stored → Stored → Stored
later None s = s
later (Some t) s = if nat_lt s.version t.version then t else s

newest_of : (x t s : Stored) → newer x (Some (later (Some t) s)) ≡ later (Some (newer x (Some t))) s
newest_of x t s = go (nat_lt s.version t.version) (nat_lt t.version x.version) (nat_lt s.version x.version) refl refl refl
  where
    go : (a b c : Bool) → nat_lt s.version t.version ≡ a → nat_lt t.version x.version ≡ b → nat_lt s.version x.version ≡ c
        → newer x (Some (later (Some t) s)) ≡ later (Some (newer x (Some t))) s
    go true true true ea eb ec = rw (ea, eb) (rw ec refl)
    go true true false ea eb ec = absurd (omega (arith, ltb-true _ _ ea, ltb-true _ _ eb, ltb-false _ _ ec))
    go true false c ea eb ec = rw (ea, eb) (rw ea refl)
    go false true c ea eb ec = rw (ea, eb) refl
    go false false true ea eb ec = absurd (omega (arith, ltb-false _ _ ea, ltb-false _ _ eb, ltb-true _ _ ec))
    go false false false ea eb ec = rw (ea, eb) (rw (ea, ec) refl)

newest : (x s : Stored) (o : Option Stored) → newer x (Some (later o s)) ≡ later (Some (newer x o)) s
newest x s None = refl
newest x s (Some t) = newest_of x t s

pub shown_append : (xs : List Stored) (s : Stored) (k : List ℕ) → shown (xs ++ s ∷ []) k ≡ cond (bytes_eq k s.key) (Some (later (shown xs k) s)) (shown xs k)
shown_append [] s k = refl
shown_append (x ∷ xs) s k = go (bytes_eq k x.key) (bytes_eq k s.key) (shown_append xs s k)
  where
    go : (c b : Bool) → shown (xs ++ s ∷ []) k ≡ cond b (Some (later (shown xs k) s)) (shown xs k)
        → cond c (Some (newer x (shown (xs ++ s ∷ []) k))) (shown (xs ++ s ∷ []) k) ≡ cond b (Some (later (cond c (Some (newer x (shown xs k))) (shown xs k)) s)) (cond c (Some (newer x (shown xs k))) (shown xs k))
    go false b e = e
    go true false e = ap (λ o. Some (newer x o)) e
    go true true e = ap (λ o. Some (newer x o)) e ∙ ap Some (newest x s (shown xs k))

-- a key shows something exactly where something is settled on it
pub shown_has_key : (xs : List Stored) (k : List ℕ) → is_some (shown xs k) ≡ has_key xs k
shown_has_key [] k = refl
shown_has_key (x ∷ xs) k = go (bytes_eq k x.key) (shown_has_key xs k)
  where
    go : (c : Bool) → is_some (shown xs k) ≡ has_key xs k → is_some (cond c (Some (newer x (shown xs k))) (shown xs k)) ≡ (c || has_key xs k)
    go true e = refl
    go false e = e

no_pair : (xs : List Stored) (k : List ℕ) (v : ℕ) → has_key xs k ≡ false → has_pair xs (record { key = k; version = v }) ≡ false
no_pair [] k v e = refl
no_pair (x ∷ xs) k v e = go (bytes_eq k x.key) e (λ h. no_pair xs k v h)
  where
    go : (c : Bool) → (c || has_key xs k) ≡ false → (has_key xs k ≡ false → has_pair xs (record { key = k; version = v }) ≡ false)
        → ((c && (v == x.version)) || has_pair xs (record { key = k; version = v })) ≡ false
    go true e rest = absurd cc
    go false e rest = rest e

-- no pair of a key that shows nothing is settled
pub nothing_shown : (xs : List Stored) (k : List ℕ) (v : ℕ) → shown xs k ≡ None → has_pair xs (record { key = k; version = v }) ≡ false
nothing_shown xs k v e = no_pair xs k v (sym (shown_has_key xs k) ∙ ap is_some e)

has_key_append : (xs : List Stored) (s : Stored) (k : List ℕ) → has_key (xs ++ s ∷ []) k ≡ (has_key xs k || bytes_eq k s.key)
has_key_append [] s k = go (bytes_eq k s.key)
  where
    go : (b : Bool) → (b || false) ≡ b
    go true = refl
    go false = refl
has_key_append (x ∷ xs) s k = go (bytes_eq k x.key) (has_key_append xs s k)
  where
    go : (c : Bool) → has_key (xs ++ s ∷ []) k ≡ (has_key xs k || bytes_eq k s.key) → (c || has_key (xs ++ s ∷ []) k) ≡ ((c || has_key xs k) || bytes_eq k s.key)
    go true e = refl
    go false e = e

-- one more key shows something where nothing was settled on the pair's key before
pub keys_append : (xs : List Stored) (s : Stored) → length (shown_keys (xs ++ s ∷ [])) ≡ length (shown_keys xs) + cond (has_key xs s.key) 0 1
keys_append [] s = refl
keys_append (x ∷ xs) s =
    rw (has_key_append xs s x.key, nat_list_eq_equiv.symm s.key x.key)
    (go (has_key xs x.key) (bytes_eq x.key s.key) (has_key xs s.key) (λ e. ap (has_key xs) ((bytes_eq-Decides x.key s.key).0 e)) (keys_append xs s))
  where
    go : (h c g : Bool) → (c ≡ true → h ≡ g) → length (shown_keys (xs ++ s ∷ [])) ≡ length (shown_keys xs) + cond g 0 1
        → length (cond (h || c) (shown_keys (xs ++ s ∷ [])) (x.key ∷ shown_keys (xs ++ s ∷ []))) ≡ length (cond h (shown_keys xs) (x.key ∷ shown_keys xs)) + cond (c || g) 0 1
    go true true true same e = e
    go true true false same e = absurd (let h = same refl in cc)
    go true false g same e = e
    go false true true same e = absurd (let h = same refl in cc)
    go false true false same e = omega (arith, e)
    go false false true same e = omega (arith, e)
    go false false false same e = omega (arith, e)

-- the pair that is shown, if there is one, has this key
abbrev pub IsOn : List ℕ → Option Stored → Type 0
IsOn k None = Unit {0}
IsOn k (Some s) = k ≡ s.key

pub shown_on : (xs : List Stored) (k : List ℕ) → IsOn k (shown xs k)
shown_on [] k = tt
shown_on (x ∷ xs) k = go (bytes_eq k x.key) refl (shown xs k) (shown_on xs k)
  where
    of_two : (t : Stored) (b : Bool) → k ≡ x.key → k ≡ t.key → k ≡ (cond b x t).key
    of_two t true e f = e
    of_two t false e f = f

    go : (c : Bool) → bytes_eq k x.key ≡ c → (o : Option Stored) → IsOn k o → IsOn k (cond c (Some (newer x o)) o)
    go false e o h = h
    go true e None h = (bytes_eq-Decides k x.key).0 e
    go true e (Some t) h = of_two t (nat_lt t.version x.version) ((bytes_eq-Decides k x.key).0 e) h
