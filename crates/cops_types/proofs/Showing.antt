-- The entries of slots when one more slot is added.
use Rattle.std.proofs.Common.{◌≡◌, ℕ, zero, suc, ◌+◌, ◌<◌, ◌≤◌, List, [], ◌∷◌, ◌++◌, map, length, length-append, get_or, replicate, slice_get, Option, Some, None, refl, sym, ap, ◌∙◌, subst, arith, get_or-set_same, get_or-set_other, inl, inr}
use Rattle.std.specs.Prelude.{◌⊎◌, ◌≢◌, ◌↔◌, IfSome, IfNone}
use Rattle.std.specs.Option.{option_and_then, option_map}
use Rattle.std.proofs.Math.ListN.{set, get_or-map}
use Rattle.std.proofs.Math.Nat.{eq-or-lt_of_le}
use Rattle.std.proofs.lemmas.List.{map-set, map-append, length-map}
use Rattle.std.proofs.lemmas.Option.{slice_get-map, get_or_from_slice_get, slice_get_within}
use Rattle.cops_types.specs.declared.entry.StoredOp.{StoredOp}
use Rattle.cops_types.specs.declared.entry.StoredOp.TheVariants.{Put, Got, Sourced, Missed}
use Rattle.cops_types.specs.declared.entry.StoredOpRef.{StoredOpRef}
use Rattle.cops_types.specs.declared.entry.StoredOpRef.TheVariants.{Put as PutRef, Got as GotRef, Sourced as SourcedRef, Missed as MissedRef}
use Rattle.cops_types.specs.declared.entry.NumberedPut.{NumberedPut}
use Rattle.cops_types.specs.declared.op.OpName.{OpName}
use Rattle.cops_types.specs.declared.slot.KeptGot.{KeptGot}
use Rattle.cops_types.specs.declared.slot.KeptPut.{KeptPut}
use Rattle.cops_types.specs.declared.slot.OpSlot.{OpSlot}
use Rattle.cops_types.specs.declared.slot.OpSlot.TheVariants.{Put as PutSlot, Got as GotSlot, Sourced as SourcedSlot, Missed as MissedSlot}
use Rattle.cops_types.specs.declared.versioned_put.VersionedPut.{VersionedPut}
use Rattle.cops_types.specs.Entries.{HasSource, HasValue, IsNumbered, ListsEntries, puts_in, value_in, value_put}
use Rattle.cops_types.specs.Lists.{item_at, number_at, with_item}
use Rattle.cops_types.specs.Recorded.{AreNumbered}
use Rattle.cops_types.specs.Slots.{AreKept, IsFrom, IsStored, IsThere, next_name, get_number_in, get_numbers_in, put_shown, source_shown, got_shown, shown, shown_by, versioned, content_of}
use Rattle.cops_types.proofs.Joining.{get_left, get_right}
use Rattle.cops_types.proofs.Sessions.{at_or_other}

-- ---- lists

-- what a value was mapped from
pub mapped_from : {X Y : Type 0} (f : X → Y) (o : Option X) (y : Y) → option_map f o ≡ Some y → (x : X) × (o ≡ Some x)
mapped_from f None y is = cc
mapped_from f (Some x) y is = (x, refl)

-- functions that agree on a list's elements
map-same : {X Y : Type 0} (f g : X → Y) (xs : List X) → ((i : ℕ) (x : X) → slice_get xs i ≡ Some x → f x ≡ g x) → map f xs ≡ map g xs
map-same f g [] same = refl
map-same f g (x ∷ xs) same = λ j. same zero x refl j ∷ map-same f g xs (λ i y at. same (suc i) y at) j

module _ {X Y : Type 0} (f : X → Y) where
  -- the item of a name after mapping all items
  pub item_at-map : (lists : List (List X)) (name : OpName) → item_at (map (map f) lists) name ≡ option_map f (item_at lists name)
  item_at-map lists name =
      ap (λ (l : List Y). slice_get l name.index) (get_or-map (map f) lists name.client []) ∙ slice_get-map f (get_or lists name.client []) name.index

  pub length-map_map : (lists : List (List X)) (client : ℕ) → length (get_or (map (map f) lists) client []) ≡ length (get_or lists client [])
  length-map_map lists client = ap length (get_or-map (map f) lists client []) ∙ length-map (get_or lists client []) f

  pub map-none : (n : ℕ) → map (map f) (replicate n []) ≡ replicate n []
  map-none zero = refl
  map-none (suc n) = ap (λ (l : List (List Y)). [] ∷ l) (map-none n)

  -- mapping lists with one more item
  pub map-with_item : (lists : List (List X)) (client : ℕ) (item : X) → map (map f) (with_item lists client item) ≡ with_item (map (map f) lists) client (f item)
  map-with_item lists client item =
      let own = get_or lists client [] in
      map-set (map f) lists client (own ++ item ∷ [])
      ∙ ap (set (map (map f) lists) client) (map-append f own (item ∷ []) ∙ ap (λ (l : List Y). l ++ f item ∷ []) (sym (get_or-map (map f) lists client [])))

  -- a function that agrees on all items
  pub map-same_items : (g : X → Y) (lists : List (List X)) → ((name : OpName) (x : X) → item_at lists name ≡ Some x → f x ≡ g x) → map (map f) lists ≡ map (map g) lists
  map-same_items g lists same =
      map-same (map f) (map g) lists (λ c s at.
      map-same f g s (λ i x here.
      same (record { client = c; index = i }) x (ap (λ (l : List X). slice_get l i) (get_or_from_slice_get lists c s [] at) ∙ here)))

-- an item of a list with one more item was there before, or is the new one at the end
pub slice_get-end : {X : Type 0} (xs : List X) (y : X) (i : ℕ) (x : X) → slice_get (xs ++ y ∷ []) i ≡ Some x → (slice_get xs i ≡ Some x) ⊎ ((i ≡ length xs) × (y ≡ x))
slice_get-end [] y zero x at = let e : y ≡ x = cc in inr (refl, e)
slice_get-end [] y (suc i) x at = cc
slice_get-end (z ∷ xs) y zero x at = inl at
slice_get-end (z ∷ xs) y (suc i) x at = elim (slice_get-end xs y i x at) [ inl p ↦ inl p | inr p ↦ inr (ap suc p.0, p.1) ]

-- the item at the end
pub end_of : {X : Type 0} (xs : List X) (y : X) → slice_get (xs ++ y ∷ []) (length xs) ≡ Some y
end_of xs y = get_right xs (y ∷ []) 0 (length xs) (omega arith)

pub stays_left : {X : Type 0} (xs ys : List X) (i : ℕ) (x : X) → slice_get xs i ≡ Some x → slice_get (xs ++ ys) i ≡ Some x
stays_left xs ys i x at = get_left xs ys i (slice_get_within xs i x at) ∙ at

-- the first list is a prefix of the second
abbrev pub IsPrefix : {X : Type 0} → List X → List X → Type 0
IsPrefix {X} xs ys = (i : ℕ) (x : X) → slice_get xs i ≡ Some x → slice_get ys i ≡ Some x

pub prefix_same : {X : Type 0} (xs : List X) → IsPrefix xs xs
prefix_same xs = λ i x at. at

pub prefix_more : {X : Type 0} (xs : List X) (y : X) → IsPrefix xs (xs ++ y ∷ [])
prefix_more xs y = stays_left xs (y ∷ [])

-- the item that is added to a client's list
pub item_last : {X : Type 0} (lists : List (List X)) (client : ℕ) (item : X) → client < length lists → item_at (with_item lists client item) (record { client = client; index = length (get_or lists client []) }) ≡ Some item
item_last {X} lists client item inside =
    let own = get_or lists client [] in
    ap (λ (l : List X). slice_get l (length own)) (get_or-set_same lists client (own ++ item ∷ []) [] inside) ∙ end_of own item

module _ {X : Type 0} (lists : List (List X)) (client : ℕ) (item : X) (inside : client < length lists) (name : OpName) (x : X) where
  own : client ≡ name.client → get_or (with_item lists client item) name.client [] ≡ get_or lists name.client [] ++ item ∷ []
  own p =
      subst (λ (d : ℕ). get_or (with_item lists client item) d [] ≡ get_or lists d [] ++ item ∷ []) p
      (get_or-set_same lists client (get_or lists client [] ++ item ∷ []) [] inside)

  other : name.client ≢ client → get_or (with_item lists client item) name.client [] ≡ get_or lists name.client []
  other p = get_or-set_other lists client name.client (get_or lists client [] ++ item ∷ []) [] p

  -- an item that was there stays
  pub item_stays : item_at lists name ≡ Some x → item_at (with_item lists client item) name ≡ Some x
  item_stays at =
      elim (at_or_other client name.client) [
        | inl p ↦ ap (λ (l : List X). slice_get l name.index) (own p) ∙ stays_left (get_or lists name.client []) (item ∷ []) name.index x at
        | inr p ↦ ap (λ (l : List X). slice_get l name.index) (other p) ∙ at
      ]

  -- an item of the lists with one more item was there before, or is the new one, at its index
  pub item_came_last : item_at (with_item lists client item) name ≡ Some x → (item_at lists name ≡ Some x) ⊎ ((item ≡ x) × (name.client ≡ client) × (name.index ≡ length (get_or lists client [])))
  item_came_last at =
      elim (at_or_other client name.client) [
        | inl p ↦ elim (slice_get-end (get_or lists name.client []) item name.index x (sym (ap (λ (l : List X). slice_get l name.index) (own p)) ∙ at)) [
          | inl q ↦ inl q
          | inr q ↦ inr (q.1, sym p, q.0 ∙ ap (λ (d : ℕ). length (get_or lists d [])) (sym p))
        ]
        | inr p ↦ inl (sym (ap (λ (l : List X). slice_get l name.index) (other p)) ∙ at)
      ]

-- ---- slots

pub item_at-shown : (puts : List KeptPut) (gets : List KeptGot) (slots : List (List OpSlot)) (name : OpName) → item_at (shown_by puts gets slots) name ≡ option_map (shown puts gets) (item_at slots name)
item_at-shown puts gets slots name = item_at-map (shown puts gets) slots name

pub length_shown : (puts : List KeptPut) (gets : List KeptGot) (slots : List (List OpSlot)) (client : ℕ) → length (get_or (shown_by puts gets slots) client []) ≡ length (get_or slots client [])
length_shown puts gets slots client = length-map_map (shown puts gets) slots client

-- an index within a list has an item
pub found : {X : Type 0} (xs : List X) (i : ℕ) → i < length xs → (x : X) × (slice_get xs i ≡ Some x)
found [] i inside = absurd (omega (arith, inside))
found (x ∷ xs) zero inside = (x, refl)
found (x ∷ xs) (suc i) inside = found xs i (omega (arith, inside))

module _ (puts puts' : List KeptPut) (gets gets' : List KeptGot) (more_puts : IsPrefix puts puts') (more_gets : IsPrefix gets gets') where
  -- a slot still stands for the same entry
  shown-same : (s : OpSlot) → IsThere (length puts) (length gets) s → shown puts' gets' s ≡ shown puts gets s
  shown-same (PutSlot n) there = let p = found puts n there in ap put_shown (more_puts n p.0 p.1 ∙ sym p.1)
  shown-same (SourcedSlot n) there = let p = found puts n there in ap (source_shown n) (more_puts n p.0 p.1 ∙ sym p.1)
  shown-same (GotSlot n) there = let g = found gets n there in ap got_shown (more_gets n g.0 g.1 ∙ sym g.1)
  shown-same (MissedSlot key) there = refl

  module _ (slots : List (List OpSlot)) (kept : AreKept puts gets slots) (client : ℕ) (slot : OpSlot) (inside : client < length slots) where
    -- the client gains the entry of the slot
    shown_by-more : (entry : StoredOp) → shown puts' gets' slot ≡ entry → shown_by puts' gets' (with_item slots client slot) ≡ with_item (shown_by puts gets slots) client entry
    shown_by-more entry is =
        let same = map-same_items (shown puts' gets') (shown puts gets) slots (λ name s at. shown-same s (kept.there name s at)) in
        map-with_item (shown puts' gets') slots client slot ∙ (λ j. with_item (same j) client (is j))

    -- the invariant holds with one more slot
    kept_more : IsThere (length puts') (length gets') slot
        → ((n : ℕ) (p : KeptPut) → slice_get puts' n ≡ Some p → (slice_get puts n ≡ Some p) ⊎ ((slot ≡ PutSlot n) × (p.name ≡ next_name slots client)))
        → ((n : ℕ) → slot ≡ PutSlot n → (p : KeptPut) × (slice_get puts' n ≡ Some p) × (p.name ≡ next_name slots client))
        → ((n : ℕ) → n < length gets' → (n < length gets) ⊎ (slot ≡ GotSlot n)) → ((n : ℕ) → slot ≡ GotSlot n → length gets ≤ n)
        → AreKept puts' gets' (with_item slots client slot)
    kept_more fits named last newer next = record {
      there = λ name s at. elim (item_came_last slots client slot inside name s at) [
        | inl p ↦ still s (kept.there name s p)
        | inr p ↦ subst (IsThere (length puts') (length gets')) p.0 fits
      ];
      named = λ n p at. elim (named n p at) [
        | inl was ↦ item_stays slots client slot inside p.name (PutSlot n) (kept.named n p was)
        | inr is ↦ ap (item_at (with_item slots client slot)) is.1 ∙ item_last slots client slot inside ∙ ap (λ (s : OpSlot). Some s) is.0
      ];
      back = λ name n at. elim (item_came_last slots client slot inside name (PutSlot n) at) [
        | inl was ↦ let p = kept.back name n was in (p.0, more_puts n p.0 p.1, p.2)
        | inr is ↦ let p = last n is.0 in (p.0, p.1, p.2 ∙ (λ j. record { client = sym is.1 j; index = sym is.2 j }))
      ];
      each = λ n within. elim (newer n within) [
        | inl was ↦ let name = kept.each n was in (name.0, item_stays slots client slot inside name.0 (GotSlot n) name.1)
        | inr is ↦ (next_name slots client, item_last slots client slot inside ∙ ap (λ (s : OpSlot). Some s) is)
      ];
      once = λ a b n at also. elim (came a n at) [
        | inl p ↦ elim (came b n also) [
          | inl q ↦ kept.once a b n p q
          | inr q ↦ absurd (omega (arith, kept.there a (GotSlot n) p, next n q.0))
        ]
        | inr p ↦ elim (came b n also) [
          | inl q ↦ absurd (omega (arith, kept.there b (GotSlot n) q, next n p.0))
          | inr q ↦ λ j. record { client = (p.1 ∙ sym q.1) j; index = (p.2 ∙ sym q.2) j }
        ]
      ];
      rising = λ a b m n same before at also. elim (came a m at) [
        | inl p ↦ elim (came b n also) [
          | inl q ↦ kept.rising a b m n same before p q
          | inr q ↦ omega (arith, kept.there a (GotSlot m) p, next n q.0)
        ]
        | inr p ↦ elim (came b n also) [
          | inl q ↦
              let short : b.index < length (get_or slots b.client []) = slice_get_within (get_or slots b.client []) b.index (GotSlot n) q in
              let own : length (get_or slots b.client []) ≡ length (get_or slots client []) = ap (λ (c : ℕ). length (get_or slots c [])) (sym same ∙ p.1) in
              absurd (omega (arith, short, own, before, p.2))
          | inr q ↦ absurd (omega (arith, before, p.2, q.2))
        ]
      ];
    }
      where
        came : (name : OpName) (n : ℕ) → item_at (with_item slots client slot) name ≡ Some (GotSlot n)
            → (item_at slots name ≡ Some (GotSlot n)) ⊎ ((slot ≡ GotSlot n) × (name.client ≡ client) × (name.index ≡ length (get_or slots client [])))
        came name n at = item_came_last slots client slot inside name (GotSlot n) at

        still : (s : OpSlot) → IsThere (length puts) (length gets) s → IsThere (length puts') (length gets') s
        still (PutSlot n) there = let p = found puts n there in slice_get_within puts' n p.0 (more_puts n p.0 p.1)
        still (SourcedSlot n) there = let p = found puts n there in slice_get_within puts' n p.0 (more_puts n p.0 p.1)
        still (GotSlot n) there = let g = found gets n there in slice_get_within gets' n g.0 (more_gets n g.0 g.1)
        still (MissedSlot key) there = tt

    -- both
    pub with_slot : (entry : StoredOp) → shown puts' gets' slot ≡ entry → IsThere (length puts') (length gets') slot
        → ((n : ℕ) (p : KeptPut) → slice_get puts' n ≡ Some p → (slice_get puts n ≡ Some p) ⊎ ((slot ≡ PutSlot n) × (p.name ≡ next_name slots client)))
        → ((n : ℕ) → slot ≡ PutSlot n → (p : KeptPut) × (slice_get puts' n ≡ Some p) × (p.name ≡ next_name slots client))
        → ((n : ℕ) → n < length gets' → (n < length gets) ⊎ (slot ≡ GotSlot n)) → ((n : ℕ) → slot ≡ GotSlot n → length gets ≤ n)
        → AreKept puts' gets' (with_item slots client slot) × (shown_by puts' gets' (with_item slots client slot) ≡ with_item (shown_by puts gets slots) client entry)
    with_slot entry is fits named last newer next = (kept_more fits named last newer next, shown_by-more entry is)

module _ (puts : List KeptPut) (gets : List KeptGot) (slots : List (List OpSlot)) (kept : AreKept puts gets slots) where
  -- a put is the entry of its name
  pub put_at : (n : ℕ) (p : KeptPut) → slice_get puts n ≡ Some p → item_at (shown_by puts gets slots) p.name ≡ Some (Put p.key (content_of p.has_value p.value) p.version)
  put_at n p at = item_at-shown puts gets slots p.name ∙ ap (option_map (shown puts gets)) (kept.named n p at) ∙ ap (λ (o : Option KeptPut). Some (put_shown o)) at

  -- the number in a put's slot is that of its name
  pub named_at : (name : OpName) (n : ℕ) → item_at slots name ≡ Some (PutSlot n) → slice_get (map (λ (p : KeptPut). p.name) puts) n ≡ Some name
  named_at name n at = let p = kept.back name n at in slice_get-map (λ (q : KeptPut). q.name) puts n ∙ ap (option_map (λ (q : KeptPut). q.name)) p.1 ∙ ap Some p.2

  -- the name with that number is a put's
  pub put_named : (name : OpName) (n : ℕ) → slice_get (map (λ (p : KeptPut). p.name) puts) n ≡ Some name → item_at slots name ≡ Some (PutSlot n)
  put_named name n at =
      let f = λ (q : KeptPut). q.name in
      let inside : n < length puts = omega (arith, slice_get_within (map f puts) n name at, length-map puts f) in
      let p = found puts n inside in
      let both : Some name ≡ Some p.0.name = sym at ∙ slice_get-map f puts n ∙ ap (option_map f) p.1 in
      let same : name ≡ p.0.name = cc in
      ap (item_at slots) same ∙ kept.named n p.0 p.1

  -- a reference has its put's value
  pub has_value : (e : StoredOpRef) → IsFrom puts e → HasValue (shown_by puts gets slots) e
  has_value (PutRef key value version) from = tt
  has_value (GotRef key value version) from = tt
  has_value (SourcedRef key put value version) from =
      let at = put_at put.number from.0 from.1 in
      let there : item_at (shown_by puts gets slots) put.name ≡ Some (Put from.0.key (content_of from.0.has_value from.0.value) from.0.version) = ap (item_at (shown_by puts gets slots)) (sym from.2) ∙ at in
      sym from.3 ∙ sym (ap value_in there)
  has_value (MissedRef key) from = tt

  -- the entry of a slot that refers to a put
  pub sourced : (put : NumberedPut) (key version : ℕ) → slice_get (map (λ (p : KeptPut). p.name) puts) put.number ≡ Some put.name
      → item_at (shown_by puts gets slots) put.name ≡ Some (Put key (value_put (shown_by puts gets slots) put.name) version)
      → (put.number < length puts) × (shown puts gets (SourcedSlot put.number) ≡ Sourced key put version)
  sourced put key version at source =
      let names = map (λ (p : KeptPut). p.name) puts in
      let inside : put.number < length puts = omega (arith, slice_get_within names put.number put.name at, length-map puts (λ (p : KeptPut). p.name)) in
      let p = found puts put.number inside in
      let both : Some put.name ≡ Some p.0.name = sym at ∙ slice_get-map (λ (q : KeptPut). q.name) puts put.number ∙ ap (option_map (λ (q : KeptPut). q.name)) p.1 in
      let name : put.name ≡ p.0.name = cc in
      let there : Some (Put p.0.key (content_of p.0.has_value p.0.value) p.0.version) ≡ Some (Put key (value_put (shown_by puts gets slots) put.name) version) =
      sym (put_at put.number p.0 p.1) ∙ ap (item_at (shown_by puts gets slots)) (sym name) ∙ source in
      let same_key : p.0.key ≡ key = cc in
      let same_version : p.0.version ≡ version = cc in
      (inside, ap (source_shown put.number) p.1 ∙ (λ j. Sourced (same_key j) (record { name = sym name j; number = put.number }) (same_version j)))

-- puts with their versions have the puts' names
pub names_versioned : (puts : List KeptPut) → map (λ (p : VersionedPut). p.name) (map versioned puts) ≡ map (λ (p : KeptPut). p.name) puts
names_versioned [] = refl
names_versioned (p ∷ puts) = ap (λ (l : List OpName). p.name ∷ l) (names_versioned puts)

module _ (puts : List KeptPut) (gets : List KeptGot) (slots : List (List OpSlot)) (kept : AreKept puts gets slots) where
  -- a slot that stands for a put is a put's slot
  slot_of_put : (name : OpName) (o : Option OpSlot) → item_at slots name ≡ o → (key : ℕ) (value : Option (List ℕ)) (version : ℕ) → option_map (shown puts gets) o ≡ Some (Put key value version)
      → (n : ℕ) × (o ≡ Some (PutSlot n))
  slot_of_put name None at key value version is = cc
  slot_of_put name (Some (PutSlot n)) at key value version is = (n, refl)
  slot_of_put name (Some (SourcedSlot n)) at key value version is =
      let p = found puts n (kept.there name (SourcedSlot n) at) in
      let e : Some (source_shown n (Some p.0)) ≡ Some (Put key value version) = sym (ap (λ (o : Option KeptPut). Some (source_shown n o)) p.1) ∙ is in
      absurd cc
  slot_of_put name (Some (GotSlot n)) at key value version is =
      let g = found gets n (kept.there name (GotSlot n) at) in
      let e : Some (got_shown (Some g.0)) ≡ Some (Put key value version) = sym (ap (λ (o : Option KeptGot). Some (got_shown o)) g.1) ∙ is in
      absurd cc
  slot_of_put name (Some (MissedSlot k)) at key value version is = cc

  -- without a put's slot there is no put's entry
  no_put_shown : (name : OpName) → ((n : ℕ) → item_at slots name ≡ Some (PutSlot n) → ⊥)
      → (key version : ℕ) (value : Option (List ℕ)) → item_at (shown_by puts gets slots) name ≡ Some (Put key value version) → ⊥
  no_put_shown name none key version value at = let slot = slot_of_put name (item_at slots name) refl key value version (sym (item_at-shown puts gets slots name) ∙ at) in none slot.0 slot.1

  versioned_at : (n : ℕ) (p : KeptPut) (d : VersionedPut) → slice_get puts n ≡ Some p → get_or (map versioned puts) n d ≡ versioned p
  versioned_at n p d at = get_or_from_slice_get (map versioned puts) n (versioned p) d (slice_get-map versioned puts n ∙ ap (option_map versioned) at)

  -- the puts are exactly the entries of puts
  pub lists_entries : ListsEntries (shown_by puts gets slots) (map versioned puts)
  lists_entries = record {
    members = λ p. (
      (λ there.
          let inside : there.0 < length puts = omega (arith, there.1, length-map puts versioned) in
          let q = found puts there.0 inside in
          let same : versioned q.0 ≡ p = sym (versioned_at there.0 q.0 p q.1) ∙ there.2 in
          subst (λ (r : VersionedPut). (key : ℕ) × (value : Option (List ℕ)) × (item_at (shown_by puts gets slots) r.name ≡ Some (Put key value r.version))) same
          (q.0.key, content_of q.0.has_value q.0.value, put_at puts gets slots kept there.0 q.0 q.1)),
      (λ there.
          let shown_there = sym (item_at-shown puts gets slots p.name) ∙ there.2 in
          let slot = slot_of_put p.name (item_at slots p.name) refl there.0 there.1 p.version shown_there in
          let q = kept.back p.name slot.0 slot.1 in
          let both : Some (Put q.0.key (content_of q.0.has_value q.0.value) q.0.version) ≡ Some (Put there.0 there.1 p.version) =
          sym (ap (λ (o : Option KeptPut). Some (put_shown o)) q.1) ∙ sym (ap (option_map (shown puts gets)) slot.1) ∙ shown_there in
          let version : q.0.version ≡ p.version = cc in
          let inside : slot.0 < length (map versioned puts) = omega (arith, slice_get_within puts slot.0 q.0 q.1, length-map puts versioned) in
          let same : versioned q.0 ≡ p = (λ j. record { version = version j; name = q.2 j }) in
          (slot.0, inside, versioned_at slot.0 q.0 p q.1 ∙ same)),
    );
    once = λ i j d less inside same.
        let there : j < length puts = omega (arith, inside, length-map puts versioned) in
        let p = found puts i (omega (arith, less, there)) in
        let q = found puts j there in
        let names : p.0.name ≡ q.0.name = ap (λ (r : VersionedPut). r.name) (sym (versioned_at i p.0 d p.1)) ∙ same ∙ ap (λ (r : VersionedPut). r.name) (versioned_at j q.0 d q.1) in
        let both : Some (PutSlot i) ≡ Some (PutSlot j) = sym (kept.named i p.0 p.1) ∙ ap (item_at slots) names ∙ kept.named j q.0 q.1 in
        let equal : i ≡ j = cc in
        omega (arith, less, equal);
  }

module _ (puts : List KeptPut) (gets : List KeptGot) (slots : List (List OpSlot)) (kept : AreKept puts gets slots) (name : OpName) where
  -- the number in a name's slot
  pub numbers_put : (number : Option ℕ) → ((n : ℕ) → (number ≡ Some n) ↔ (item_at slots name ≡ Some (PutSlot n)))
      → (n : ℕ) → (number ≡ Some n) ↔ (slice_get (map (λ (p : KeptPut). p.name) puts) n ≡ Some name)
  numbers_put number reports n = ((λ is. named_at puts gets slots kept name n ((reports n).0 is)), (λ at. (reports n).1 (put_named puts gets slots kept name n at)))

  -- the number is that of a put's entry
  pub number_is_put : (number : Option ℕ) → ((n : ℕ) → (number ≡ Some n) ↔ (item_at slots name ≡ Some (PutSlot n)))
      → IfSome number (λ _. (key version : ℕ) × (value : Option (List ℕ)) × (item_at (shown_by puts gets slots) name ≡ Some (Put key value version)))
  number_is_put (Some n) reports =
      let p = kept.back name n ((reports n).0 refl) in
      (p.0.key, p.0.version, content_of p.0.has_value p.0.value, ap (item_at (shown_by puts gets slots)) (sym p.2) ∙ put_at puts gets slots kept n p.0 p.1)
  number_is_put None reports = tt

  -- without a number there is no put's entry
  pub no_number_no_put : (number : Option ℕ) → ((n : ℕ) → (number ≡ Some n) ↔ (item_at slots name ≡ Some (PutSlot n)))
      → IfNone number ((key version : ℕ) (value : Option (List ℕ)) → item_at (shown_by puts gets slots) name ≢ Some (Put key value version))
  no_number_no_put (Some n) reports = tt
  no_number_no_put None reports = no_put_shown puts gets slots kept name (λ n at. let gone : None ≡ Some n = (reports n).1 at in cc)

  -- the put to which a slot refers is there
  pub names_source : (number : Option ℕ) → IfSome number (λ n. item_at slots name ≡ Some (SourcedSlot n))
      → IfSome number (λ n. (put : OpName) × (slice_get (map (λ (p : KeptPut). p.name) puts) n ≡ Some put)
      × (key version : ℕ) × (item_at (shown_by puts gets slots) name ≡ Some (Sourced key (record { name = put; number = n }) version)))
  names_source (Some n) at =
      let f = λ (q : KeptPut). q.name in
      let p = found puts n (kept.there name (SourcedSlot n) at) in (
        p.0.name,
        slice_get-map f puts n ∙ ap (option_map f) p.1,
        p.0.key,
        p.0.version,
        item_at-shown puts gets slots name ∙ ap (option_map (shown puts gets)) at ∙ ap (λ (o : Option KeptPut). Some (source_shown n o)) p.1,
      )
  names_source None at = tt

-- ---- gets stored with what they returned

abbrev pub entries_of : List KeptGot → List StoredOp
entries_of gets = map (λ (g : KeptGot). got_shown (Some g)) gets

-- the slot of a number
numbered_slot : (o : Option OpSlot) (n : ℕ) → option_and_then get_number_in o ≡ Some n → o ≡ Some (GotSlot n)
numbered_slot None n is = cc
numbered_slot (Some (PutSlot k)) n is = cc
numbered_slot (Some (SourcedSlot k)) n is = cc
numbered_slot (Some (GotSlot k)) n is = cc
numbered_slot (Some (MissedSlot k)) n is = cc

reported_number : (number : Option ℕ) (o : Option OpSlot) → ((n : ℕ) → (number ≡ Some n) ↔ (o ≡ Some (GotSlot n))) → number ≡ option_and_then get_number_in o
reported_number (Some n) o reports = sym (ap (option_and_then get_number_in) ((reports n).0 refl))
reported_number None None reports = refl
reported_number None (Some (PutSlot k)) reports = refl
reported_number None (Some (SourcedSlot k)) reports = refl
reported_number None (Some (GotSlot k)) reports = (reports k).1 refl
reported_number None (Some (MissedSlot k)) reports = refl

-- the number under a name is that of its slot
flat_number : (o : Option OpSlot) → option_and_then (λ (n : Option ℕ). n) (option_map get_number_in o) ≡ option_and_then get_number_in o
flat_number None = refl
flat_number (Some s) = refl

number_of_slot : (slots : List (List OpSlot)) (name : OpName) → number_at (get_numbers_in slots) name ≡ option_and_then get_number_in (item_at slots name)
number_of_slot slots name = ap (option_and_then (λ (n : Option ℕ). n)) (item_at-map get_number_in slots name) ∙ flat_number (item_at slots name)

module _ (puts : List KeptPut) (gets : List KeptGot) (slots : List (List OpSlot)) (kept : AreKept puts gets slots) where
  -- a slot that stands for such a get is its slot
  got_slot_of : (name : OpName) (o : Option OpSlot) → item_at slots name ≡ o → (key version : ℕ) (value : Option (List ℕ)) → option_map (shown puts gets) o ≡ Some (Got key value version)
      → (n : ℕ) × (o ≡ Some (GotSlot n))
  got_slot_of name None at key version value is = cc
  got_slot_of name (Some (PutSlot n)) at key version value is =
      let p = found puts n (kept.there name (PutSlot n) at) in
      let e : Some (put_shown (Some p.0)) ≡ Some (Got key value version) = sym (ap (λ (o : Option KeptPut). Some (put_shown o)) p.1) ∙ is in
      absurd cc
  got_slot_of name (Some (SourcedSlot n)) at key version value is =
      let p = found puts n (kept.there name (SourcedSlot n) at) in
      let e : Some (source_shown n (Some p.0)) ≡ Some (Got key value version) = sym (ap (λ (o : Option KeptPut). Some (source_shown n o)) p.1) ∙ is in
      absurd cc
  got_slot_of name (Some (GotSlot n)) at key version value is = (n, refl)
  got_slot_of name (Some (MissedSlot k)) at key version value is = cc

  -- each such get has a number
  pub kept_gets : (name : OpName) (key version : ℕ) (value : Option (List ℕ)) → item_at (shown_by puts gets slots) name ≡ Some (Got key value version)
      → (n : ℕ) × (slice_get (entries_of gets) n ≡ Some (Got key value version))
  kept_gets name key version value at =
      let shown_there = sym (item_at-shown puts gets slots name) ∙ at in
      let slot = got_slot_of name (item_at slots name) refl key version value shown_there in
      let g = found gets slot.0 (kept.there name (GotSlot slot.0) slot.1) in
      let both = sym (ap (λ (o : Option KeptGot). Some (got_shown o)) g.1) ∙ sym (ap (option_map (shown puts gets)) slot.1) ∙ shown_there in
      (slot.0, slice_get-map (λ (g : KeptGot). got_shown (Some g)) gets slot.0 ∙ ap (option_map (λ (g : KeptGot). got_shown (Some g))) g.1 ∙ both)

  module _ (name : OpName) where
    -- the number in a name's slot
    pub numbers_get : (number : Option ℕ) → ((n : ℕ) → (number ≡ Some n) ↔ (item_at slots name ≡ Some (GotSlot n)))
        → IfSome number (λ n. (key version : ℕ) × (value : Option (List ℕ)) × (item_at (shown_by puts gets slots) name ≡ Some (Got key value version))
        × (slice_get (entries_of gets) n ≡ Some (Got key value version)))
    numbers_get (Some n) reports =
        let at = (reports n).0 refl in
        let g = found gets n (kept.there name (GotSlot n) at) in (
          g.0.key,
          g.0.version,
          content_of g.0.has_value g.0.value,
          item_at-shown puts gets slots name ∙ ap (option_map (shown puts gets)) at ∙ ap (λ (o : Option KeptGot). Some (got_shown o)) g.1,
          slice_get-map (λ (g : KeptGot). got_shown (Some g)) gets n ∙ ap (option_map (λ (g : KeptGot). got_shown (Some g))) g.1,
        )
    numbers_get None reports = tt

    -- without a number there is no such get
    pub no_number_no_get : (number : Option ℕ) → ((n : ℕ) → (number ≡ Some n) ↔ (item_at slots name ≡ Some (GotSlot n)))
        → IfNone number ((key version : ℕ) (value : Option (List ℕ)) → item_at (shown_by puts gets slots) name ≢ Some (Got key value version))
    no_number_no_get (Some n) reports = tt
    no_number_no_get None reports = λ key version value at.
        let slot = got_slot_of name (item_at slots name) refl key version value (sym (item_at-shown puts gets slots name) ∙ at) in
        let gone : None ≡ Some slot.0 = (reports slot.0).1 slot.1 in
        cc

    -- the slot has no other number
    pub reports_number : (number : Option ℕ) → ((n : ℕ) → (number ≡ Some n) ↔ (item_at slots name ≡ Some (GotSlot n))) → number ≡ number_at (get_numbers_in slots) name
    reports_number number reports = reported_number number (item_at slots name) reports ∙ sym (number_of_slot slots name)

  -- the numbers of these gets
  slot_of : (name : OpName) (n : ℕ) → number_at (get_numbers_in slots) name ≡ Some n → item_at slots name ≡ Some (GotSlot n)
  slot_of name n is = numbered_slot (item_at slots name) n (sym (number_of_slot slots name) ∙ is)

  pub are_numbered : AreNumbered (get_numbers_in slots) (length (entries_of gets))
  are_numbered =
      let count : length (entries_of gets) ≡ length gets = length-map gets (λ (g : KeptGot). got_shown (Some g)) in
      record {
        within = λ name n is. omega (arith, kept.there name (GotSlot n) (slot_of name n is), count);
        each = λ n within. let name = kept.each n (omega (arith, within, count)) in (name.0, number_of_slot slots name.0 ∙ ap (option_and_then get_number_in) name.1);
        once = λ a b n is also. kept.once a b n (slot_of a n is) (slot_of b n also);
        rising = λ a b m n same before is also. kept.rising a b m n same before (slot_of a m is) (slot_of b n also);
      }

-- each slot keeps its number when one more is added
pub numbers_stay : (puts : List KeptPut) (gets : List KeptGot) (slots : List (List OpSlot)) (client : ℕ) (slot : OpSlot) → client < length slots → (name : OpName) (entry : StoredOp)
    → item_at (shown_by puts gets slots) name ≡ Some entry → number_at (get_numbers_in (with_item slots client slot)) name ≡ number_at (get_numbers_in slots) name
numbers_stay puts gets slots client slot inside name entry at =
    let own = mapped_from (shown puts gets) (item_at slots name) entry (sym (item_at-shown puts gets slots name) ∙ at) in
    number_of_slot (with_item slots client slot) name ∙ ap (option_and_then get_number_in) (item_stays slots client slot inside name own.0 own.1 ∙ sym own.1) ∙ sym (number_of_slot slots name)

-- ---- one more operation

-- the puts and the gets when an entry is stored
pub gains : (entry : StoredOp) (name : OpName) (puts puts' : List KeptPut) (gets gets' : List KeptGot) (slot : OpSlot) → IsStored entry name puts gets puts' gets' slot
    → (length puts' ≡ length puts + puts_in entry) × ((entries_of gets' ≡ entries_of gets) ⊎ (entries_of gets' ≡ entries_of gets ++ entry ∷ [])) × (length puts' ≤ length puts + 1) × (length gets' ≤ length gets + 1)
gains (Put key value version) name puts puts' gets gets' slot s =
    let more : length puts' ≡ length puts + 1 = omega (arith, ap length s.3, length-append puts (s.0 ∷ [])) in
    (more, inl (ap entries_of s.4), omega (arith, more), omega (arith, ap length s.4))
gains (Got key value version) name puts puts' gets gets' slot s =
    let f = λ (g : KeptGot). got_shown (Some g) in (
      omega (arith, ap length s.2),
      inr (ap (map f) s.3 ∙ map-append f gets (s.0 ∷ []) ∙ ap (λ (e : StoredOp). map f gets ++ e ∷ []) s.1),
      omega (arith, ap length s.2),
      omega (arith, ap length s.3, length-append gets (s.0 ∷ [])),
    )
gains (Sourced key put version) name puts puts' gets gets' slot s = (omega (arith, ap length s.0), inl (ap entries_of s.1), omega (arith, ap length s.0), omega (arith, ap length s.1))
gains (Missed key) name puts puts' gets gets' slot s = (omega (arith, ap length s.0), inl (ap entries_of s.1), omega (arith, ap length s.0), omega (arith, ap length s.1))

module _ (puts : List KeptPut) (gets : List KeptGot) (slots : List (List OpSlot)) (kept : AreKept puts gets slots) (client : ℕ) (inside : client < length slots) where
  -- the slot of an entry that was stored becomes the client's last one
  pub stored : (entry : StoredOp) (puts' : List KeptPut) (gets' : List KeptGot) (slot : OpSlot) → IsNumbered (map (λ (p : KeptPut). p.name) puts) entry → HasSource (shown_by puts gets slots) entry
      → IsStored entry (next_name slots client) puts gets puts' gets' slot
      → AreKept puts' gets' (with_item slots client slot) × (shown_by puts' gets' (with_item slots client slot) ≡ with_item (shown_by puts gets slots) client entry)
  stored (Put key value version) puts' gets' slot numbered source s =
      let put = s.0 in
      rw (s.3, s.4, s.5) (with_slot puts (puts ++ put ∷ []) gets gets (prefix_more puts put) (prefix_same gets) slots kept client (PutSlot (length puts)) inside
      (Put key value version) (ap put_shown (end_of puts put) ∙ s.2) (omega (arith, length-append puts (put ∷ [])))
      (λ n p there. elim (slice_get-end puts put n p there) [ inl was ↦ inl was | inr end ↦ inr (ap (λ (k : ℕ). PutSlot k) (sym end.0), ap (λ (q : KeptPut). q.name) (sym end.1) ∙ s.1) ])
      (λ n is. let number : length puts ≡ n = cc in (put, subst (λ (k : ℕ). slice_get (puts ++ put ∷ []) k ≡ Some put) number (end_of puts put), s.1))
      (λ n within. inl within) (λ n is. cc))
  stored (Got key value version) puts' gets' slot numbered source s =
      let got = s.0 in
      rw (s.2, s.3, s.4) (with_slot puts puts gets (gets ++ got ∷ []) (prefix_same puts) (prefix_more gets got) slots kept client (GotSlot (length gets)) inside
      (Got key value version) (ap got_shown (end_of gets got) ∙ s.1) (omega (arith, length-append gets (got ∷ []))) (λ n p there. inl there) (λ n is. cc)
      (λ n within. let le : n ≤ length gets = omega (arith, within, length-append gets (got ∷ [])) in elim (eq-or-lt_of_le le) [ inl same ↦ inr (ap (λ (k : ℕ). GotSlot k) (sym same)) | inr lower ↦ inl lower ])
      (λ n is. let e : length gets ≡ n = cc in omega (arith, e)))
  stored (Sourced key put version) puts' gets' slot numbered source s =
      let found = sourced puts gets slots kept put key version numbered source in
      rw (s.0, s.1, s.2) (with_slot puts puts gets gets (prefix_same puts) (prefix_same gets) slots kept client (SourcedSlot put.number) inside
      (Sourced key put version) found.1 found.0 (λ n p there. inl there) (λ n is. cc) (λ n within. inl within) (λ n is. cc))
  stored (Missed key) puts' gets' slot numbered source s =
      rw (s.0, s.1, s.2) (with_slot puts puts gets gets (prefix_same puts) (prefix_same gets) slots kept client (MissedSlot key) inside
      (Missed key) refl tt (λ n p there. inl there) (λ n is. cc) (λ n within. inl within) (λ n is. cc))

-- ---- slots as they are stored

-- a client that is there
pub has_slots : (puts : List KeptPut) (gets : List KeptGot) (slots : List (List OpSlot)) (client : ℕ) → client < length (shown_by puts gets slots) → client < length slots
has_slots puts gets slots client inside = omega (arith, inside, length-map slots (map (shown puts gets)))
