-- What a store finds by its maps, and that they remain an index after one more pair.
use Rattle.std.proofs.Common.{◌≡◌, ◌<◌, ℕ, zero, suc, ◌+◌, Bool, true, false, cond, nat_eq, nat_lt, List, [], ◌∷◌, ◌++◌, length, slice_get, Option, None, Some, is_some, ◌&&◌, refl, sym, ap, ◌∙◌, arith, subst}
use Rattle.std.specs.Cmp.Lexicographic.{nat_list_eq_equiv}
use Rattle.std.specs.List.{IsDistinct, position, position_or_len}
use Rattle.std.specs.Map.{keys_of, lookup}
use Rattle.std.specs.Option.{option_map}
use Rattle.indexmap.specs.IndexMap.{insert_entry}
use Rattle.std.specs.Str.{bytes_eq}
use Rattle.std.proofs.lemmas.List.{length-map, map-append}
use Rattle.std.proofs.lemmas.Option.{slice_get-map}
use Rattle.std.proofs.lemmas.Slice.Eq.{bytes_eq-Decides}
use Rattle.cops_store.specs.declared.place.KeyPlace.{KeyPlace}
use Rattle.cops_store.specs.declared.settled.Settled.{Settled}
use Rattle.cops_store.specs.declared.settled.Settled.TheVariants.{Shown, Older, Repeat}
use Rattle.cops_store.specs.Places.{pick, chosen}
use Rattle.cops_store.specs.Store.{Stored, has_pair, with_settled, shown}
use Rattle.cops_store.specs.Settling.{has_key, shown_keys, settling, shown_or_older}
use Rattle.cops_store.specs.Index.{Keys, Pairs, IsIndex, ShowsAt, key_at, stored_at, settled_in}
use Rattle.cops_store.proofs.Showing.{later, shown_append, shown_has_key, keys_append, IsOn, shown_on}
use Rattle.cops_store.proofs.Placing.{is_at, found_pair, with_key, place_in, named, within, grown, settled_kept, placed_on}

pub found_at : (xs : List (List ℕ)) (key : List ℕ) (at : ℕ) → Some at ≡ position (bytes_eq key) xs → at ≡ position_or_len (bytes_eq key) xs
found_at xs key at e = go (nat_lt (position_or_len (bytes_eq key) xs) (length xs)) e
  where
    go : (b : Bool) → Some at ≡ cond b (Some (position_or_len (bytes_eq key) xs)) None → at ≡ position_or_len (bytes_eq key) xs
    go true h = cc
    go false h = absurd cc

pub none_there : {A : Type 0} (o : Option A) → false ≡ is_some o → o ≡ None
none_there None e = refl
none_there (Some x) e = absurd cc

pub missed : (keys : Keys) (pairs : Pairs) (key : List ℕ) → IsIndex keys pairs → None ≡ lookup (bytes_eq key) keys → shown (settled_in keys pairs) key ≡ None
missed keys pairs key h e = subst (ShowsAt (settled_in keys pairs) key) (sym e) (h.shows key)

shown_at : (keys : Keys) (pairs : Pairs) (key : List ℕ) (at : ℕ) → IsIndex keys pairs → Some at ≡ lookup (bytes_eq key) keys → shown (settled_in keys pairs) key ≡ option_map (stored_at keys) (slice_get pairs at)
shown_at keys pairs key at h e =
    let s : ShowsAt (settled_in keys pairs) key (Some at) = subst (ShowsAt (settled_in keys pairs) key) (sym e) (h.shows key) in
    s.1 ∙ slice_get-map (stored_at keys) pairs at

pub missed_at : (keys : Keys) (pairs : Pairs) (key : List ℕ) (at : ℕ) → IsIndex keys pairs → Some at ≡ lookup (bytes_eq key) keys → None ≡ slice_get pairs at → shown (settled_in keys pairs) key ≡ None
missed_at keys pairs key at h e none = shown_at keys pairs key at h e ∙ ap (option_map (stored_at keys)) (sym none)

pub got : (keys : Keys) (pairs : Pairs) (key : List ℕ) (at : ℕ) (p : KeyPlace × Option (List ℕ)) → IsIndex keys pairs → Some at ≡ lookup (bytes_eq key) keys → Some p ≡ slice_get pairs at
    → shown (settled_in keys pairs) key ≡ Some (record { key = key; value = p.1; version = p.0.version })
got keys pairs key at p h e there =
    let is : shown (settled_in keys pairs) key ≡ Some (stored_at keys p) = shown_at keys pairs key at h e ∙ ap (option_map (stored_at keys)) (sym there) in
    let same : key ≡ key_at keys p.0.key = subst (IsOn key) is (shown_on (settled_in keys pairs) key) in
    is ∙ ap (λ k. Some (let s : Stored = record { key = k; value = p.1; version = p.0.version } in s)) (sym same)

slice_last : {A : Type 0} (xs : List A) (x : A) → slice_get (xs ++ x ∷ []) (length xs) ≡ Some x
slice_last [] x = refl
slice_last (y ∷ xs) x = slice_last xs x

slice_left : {A : Type 0} (xs ys : List A) (i : ℕ) → i < length xs → slice_get (xs ++ ys) i ≡ slice_get xs i
slice_left [] ys i l = absurd (omega (arith, l))
slice_left (x ∷ xs) ys zero l = refl
slice_left (x ∷ xs) ys (suc i) l = slice_left xs ys i (omega (arith, l))

slice_there : {A : Type 0} (xs : List A) (i : ℕ) → i < length xs → is_some (slice_get xs i) ≡ true
slice_there [] i l = absurd (omega (arith, l))
slice_there (x ∷ xs) zero l = refl
slice_there (x ∷ xs) (suc i) l = slice_there xs i (omega (arith, l))

length_push : {A : Type 0} (xs : List A) (x : A) → length (xs ++ x ∷ []) ≡ length xs + 1
length_push [] x = refl
length_push (y ∷ xs) x = (let e = length_push xs x in omega (arith, e))

module _ (keys : Keys) (pairs : Pairs) (key : List ℕ) (value : Option (List ℕ)) (version : ℕ) (h : IsIndex keys pairs) where
  abbrev old : List Stored
  old = settled_in keys pairs

  abbrev one : Stored
  one = record { key = key; value = value; version = version }

  abbrev place : KeyPlace
  place = record { key = place_in keys key; version = version }

  abbrev at_key : Option ℕ
  at_key = lookup (bytes_eq key) keys

  -- the pair is appended, and the others do not change
  settled_after : (w : ℕ) → settled_in (with_key keys key w) (pairs ++ (place, value) ∷ []) ≡ old ++ one ∷ []
  settled_after w =
      let kept = settled_kept keys key w pairs h.placed in
      let name = named keys key w in
      let last : stored_at (with_key keys key w) (place, value) ≡ one = λ i. record { key = name i; value = value; version = version } in
      map-append (stored_at (with_key keys key w)) pairs ((place, value) ∷ []) ∙ (λ i. kept i ++ last i ∷ [])

  -- what the key shows afterwards
  shown_new : shown (old ++ one ∷ []) key ≡ Some (later (shown old key) one)
  shown_new = shown_append old one key ∙ ap (λ b. cond b (Some (later (shown old key) one)) (shown old key)) (nat_list_eq_equiv.refl key)

  last_place : slice_get (old ++ one ∷ []) (length pairs) ≡ Some one
  last_place = ap (slice_get (old ++ one ∷ [])) (sym (length-map pairs (stored_at keys))) ∙ slice_last old one

  last_within : length pairs < length (old ++ one ∷ [])
  last_within = omega (arith, length_push old one, length-map pairs (stored_at keys))

  abbrev IsRight : Option ℕ → Type 0
  IsRight o = ((chosen pairs version o).0 ≡ shown_or_older one (shown old key)) × ShowsAt (old ++ one ∷ []) key (Some (chosen pairs version o).1)

  shows_new : (o : Option ℕ) → ShowsAt old key o → IsRight o
  shows_new None s =
      (ap (shown_or_older one) (sym s), (last_within, shown_new ∙ ap (λ t. Some (later t one)) s ∙ sym last_place))
  shows_new (Some at) s = go (slice_get pairs at) refl
    where
      stored : slice_get old at ≡ option_map (stored_at keys) (slice_get pairs at)
      stored = slice_get-map (stored_at keys) pairs at

      from : (p : KeyPlace × Option (List ℕ)) → slice_get pairs at ≡ Some p → shown old key ≡ Some (stored_at keys p)
      from p e = s.1 ∙ stored ∙ ap (option_map (stored_at keys)) e

      by : (p : KeyPlace × Option (List ℕ)) → slice_get pairs at ≡ Some p → (b : Bool) → nat_lt version p.0.version ≡ b
          → ((pick b at (length pairs)).0 ≡ shown_or_older one (shown old key)) × ShowsAt (old ++ one ∷ []) key (Some (pick b at (length pairs)).1)
      by p e true lt = (
        sym (ap (shown_or_older one) (from p e) ∙ ap (λ c. cond c Older Shown) lt),
        (
          (let a = s.0 in omega (arith, a, length_push old one)),
          shown_new ∙ ap (λ t. Some (later t one)) (from p e) ∙ ap (λ c. Some (cond c (stored_at keys p) one)) lt ∙ sym (from p e) ∙ s.1 ∙ sym (slice_left old (one ∷ []) at s.0),
        ),
      )
      by p e false lt = (
        sym (ap (shown_or_older one) (from p e) ∙ ap (λ c. cond c Older Shown) lt),
        (last_within, shown_new ∙ ap (λ t. Some (later t one)) (from p e) ∙ ap (λ c. Some (cond c (stored_at keys p) one)) lt ∙ sym last_place),
      )

      go : (o : Option (KeyPlace × Option (List ℕ))) → slice_get pairs at ≡ o → IsRight (Some at)
      go None e = absurd (let there = slice_there old at s.0 in let gone = ap is_some (stored ∙ ap (option_map (stored_at keys)) e) in let f : true ≡ false = sym there ∙ gone in cc)
      go (Some p) e = rw e (by p e (nat_lt version p.0.version) refl)

  right : IsRight at_key
  right = shows_new at_key (h.shows key)

  abbrev shown_place : ℕ
  shown_place = (chosen pairs version at_key).1

  shows_old : (k : List ℕ) → bytes_eq key k ≡ false → (o : Option ℕ) → ShowsAt old k o → ShowsAt (old ++ one ∷ []) k o
  shows_old k e o s = go o s
    where
      same : shown (old ++ one ∷ []) k ≡ shown old k
      same = shown_append old one k ∙ ap (λ b. cond b (Some (later (shown old k) one)) (shown old k)) (nat_list_eq_equiv.symm k key ∙ e)

      go : (o : Option ℕ) → ShowsAt old k o → ShowsAt (old ++ one ∷ []) k o
      go None s = same ∙ s
      go (Some at) s = ((let a = s.0 in omega (arith, a, length_push old one)), same ∙ s.1 ∙ sym (slice_left old (one ∷ []) at s.0))

  shows_after : (keys' : Keys) → ((q : List ℕ) → lookup (bytes_eq q) keys' ≡ cond (bytes_eq key q) (Some shown_place) (lookup (bytes_eq q) keys))
      → (k : List ℕ) → ShowsAt (old ++ one ∷ []) k (lookup (bytes_eq k) keys')
  shows_after keys' updates k = subst (ShowsAt (old ++ one ∷ []) k) (sym (updates k)) (go (bytes_eq key k) refl)
    where
      go : (b : Bool) → bytes_eq key k ≡ b → ShowsAt (old ++ one ∷ []) k (cond b (Some shown_place) (lookup (bytes_eq k) keys))
      go true e = subst (λ q. ShowsAt (old ++ one ∷ []) q (Some shown_place)) ((bytes_eq-Decides key k).0 e) right.1
      go false e = shows_old k e (lookup (bytes_eq k) keys) (h.shows k)

  has_some : (o : Option ℕ) → ShowsAt old key o → is_some (shown old key) ≡ is_some o
  has_some None s = ap is_some s
  has_some (Some at) s = ap is_some s.1 ∙ slice_there old at s.0

  count_after : (w : ℕ) → length (with_key keys key w) ≡ length (shown_keys (old ++ one ∷ []))
  count_after w =
      grown keys key w ∙ ap (λ b. length keys + cond b 0 1) (sym (has_some at_key (h.shows key)) ∙ shown_has_key old key)
      ∙ ap (λ n. n + cond (has_key old key) 0 1) h.count ∙ sym (keys_append old one)

  -- the maps with one more pair are an index
  index_after : IsDistinct bytes_eq (keys_of (with_key keys key shown_place)) → ((q : List ℕ) → lookup (bytes_eq q) (with_key keys key shown_place) ≡ cond (bytes_eq key q) (Some shown_place) (lookup (bytes_eq q) keys))
      → IsIndex (with_key keys key shown_place) (pairs ++ (place, value) ∷ [])
  index_after distinct updates = record {
    distinct = distinct;
    placed = placed_on keys (with_key keys key shown_place) pairs (let g = grown keys key shown_place in omega (arith, g)) h.placed (place, value) (within keys key shown_place);
    shows = λ k. subst (λ s. ShowsAt s k (lookup (bytes_eq k) (with_key keys key shown_place))) (sym (settled_after shown_place)) (shows_after (with_key keys key shown_place) updates k);
    count = count_after shown_place ∙ ap (λ s. length (shown_keys s)) (sym (settled_after shown_place));
  }

  module _ (keys' : Keys) (pairs' : Pairs) (r : Settled × ℕ) (right_is : r ≡ chosen pairs version at_key)
      (keys_are : keys' ≡ with_key keys key r.1) (pairs_are : pairs' ≡ pairs ++ (place, value) ∷ []) where
    keys_are_with : keys' ≡ with_key keys key shown_place
    keys_are_with = keys_are ∙ ap (λ (c : Settled × ℕ). with_key keys key c.1) right_is

    pub index_is : IsDistinct bytes_eq (keys_of keys') → ((q : List ℕ) → lookup (bytes_eq q) keys' ≡ cond (bytes_eq key q) (Some r.1) (lookup (bytes_eq q) keys)) → IsIndex keys' pairs'
    index_is distinct updates =
        subst (λ ks. IsIndex ks pairs') (sym keys_are_with)
        (subst (λ ps. IsIndex (with_key keys key shown_place) ps) (sym pairs_are)
        (index_after (subst (λ (ks : Keys). IsDistinct bytes_eq (keys_of ks)) keys_are_with distinct)
        (λ q. ap (lookup (bytes_eq q)) (sym keys_are_with) ∙ updates q ∙ ap (λ (c : Settled × ℕ). cond (bytes_eq key q) (Some c.1) (lookup (bytes_eq q) keys)) right_is)))

    pub settled_is : has_pair old (record { key = key; version = version }) ≡ false → settled_in keys' pairs' ≡ with_settled old one
    settled_is new =
        ap (λ ks. settled_in ks pairs') keys_are_with ∙ ap (settled_in (with_key keys key shown_place)) pairs_are ∙ settled_after shown_place
        ∙ sym (ap (λ b. cond b old (old ++ one ∷ [])) new)

  -- the pair is new to the map of pairs
  pub none_there_yet : has_pair old (record { key = key; version = version }) ≡ false → lookup (λ (q : KeyPlace). nat_eq (place_in keys key) q.key && nat_eq version q.version) pairs ≡ None
  none_there_yet new = none_there _ (sym (found_pair keys pairs key (place_in keys key) version (is_at keys key h.distinct) h.placed ∙ new))

  -- the result is right
  pub answer_after : has_pair old (record { key = key; version = version }) ≡ false → (chosen pairs version at_key).0 ≡ settling old one
  answer_after new = right.0 ∙ sym (ap (λ b. cond b Repeat (shown_or_older one (shown old key))) new)

  abbrev with_pair : Pairs → KeyPlace → Option (List ℕ) → Pairs
  with_pair es p v = insert_entry (λ (a b : KeyPlace). nat_eq a.key b.key && nat_eq a.version b.version) es p v

  new_last : (es : Pairs) (p : KeyPlace) (v : Option (List ℕ)) → lookup (λ (q : KeyPlace). nat_eq p.key q.key && nat_eq p.version q.version) es ≡ None
      → with_pair es p v ≡ es ++ (p, v) ∷ []
  new_last [] p v e = refl
  new_last (x ∷ es) p v e = go (nat_eq p.key x.0.key && nat_eq p.version x.0.version) e (λ r. new_last es p v r)
    where
      go : (b : Bool) → cond b (Some x.1) (lookup (λ (q : KeyPlace). nat_eq p.key q.key && nat_eq p.version q.version) es) ≡ None
          → (lookup (λ (q : KeyPlace). nat_eq p.key q.key && nat_eq p.version q.version) es ≡ None → with_pair es p v ≡ es ++ (p, v) ∷ [])
          → cond b ((x.0, v) ∷ es) (x ∷ with_pair es p v) ≡ x ∷ es ++ (p, v) ∷ []
      go true e rest = absurd cc
      go false e rest = ap (λ r. x ∷ r) (rest e)

  -- a new pair is appended to the map of pairs
  pub with_pair_at : has_pair old (record { key = key; version = version }) ≡ false → (pairs' : Pairs) (at : ℕ) → at ≡ place_in keys key
      → pairs' ≡ with_pair pairs (record { key = at; version = version }) value
      → pairs' ≡ pairs ++ (place, value) ∷ []
  with_pair_at new pairs' at e added =
      added ∙ ap (λ n. with_pair pairs (let p : KeyPlace = record { key = n; version = version } in p) value) e
      ∙ new_last pairs place value (none_there_yet new)
