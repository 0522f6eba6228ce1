-- Lists, of which one client's gains an item, and vectors that store them.
use Rattle.std.proofs.Common.{◌≡◌, ◌≢◌, ℕ, zero, suc, ◌+◌, ◌<◌, ◌≤◌, Bool, true, false, cond, eqb, List, [], ◌∷◌, ◌++◌, map, length, get_or, replicate, refl, sym, ap, ◌∙◌, subst, arith, get_or-set_same, get_or-set_other, inl, inr}
use Rattle.std.specs.Prelude.{◌⊎◌, Result, Ok, Err, OnErr, count_by}
use Rattle.std.proofs.Math.ListN.{set, length-set}
use Rattle.std.proofs.lemmas.Bool.{cases_Bool, eqb-true, eqb-false}
use Rattle.std.proofs.lemmas.List.{map-set, get_or-map, length-append, length-replicate, length-map}
use Rattle.std.proofs.lemmas.List.Sums.{count_by-le-length, sum_by-cons, sum_by-set}
use Rattle.std.proofs.lemmas.List.Folds.{sum_by-replicate}
use Rattle.cops_types.specs.Lists.{with_item}
use Rattle.cops_types.specs.Histories.{Sessions, with_op, Operation, write, read, missed}
use Rattle.cops_types.specs.Recorded.{IsWithinLimits}
use Rattle.cops_types.specs.Counts.{count_of, is_put, put_count}
use Rattle.cops_types.specs.Keeping.{flag_count}

-- ---- sessions as lists

-- an item among `n` equal ones, or that one past the end
pub default_of : {X : Type 0} (d : X) (n c : ℕ) → get_or (replicate n d) c d ≡ d
default_of d zero c = refl
default_of d (suc n) zero = refl
default_of d (suc n) (suc c) = default_of d n c

-- a list among `n` empty lists is empty
pub none_of : {X : Type 0} (n c : ℕ) → get_or (replicate {A = List X} n []) c [] ≡ []
none_of n c = default_of [] n c

pub count-none : (n : ℕ) → count_of (replicate n []) ≡ 0
count-none n = omega (arith, sum_by-replicate (length {A = Operation}) n [])

-- `n` empty sessions are within the limits
pub none_within : (n : ℕ) → n ≤ 65535 → IsWithinLimits (replicate n [])
none_within n le = record {
  clients = omega (arith, length-replicate {A = List Operation} n []);
  each = λ c. omega (arith, ap length (none_of {X = Operation} n c));
  all = omega (arith, count-none n);
}

-- a client is at an index or not
pub at_or_other : (i c : ℕ) → (i ≡ c) ⊎ (c ≢ i)
at_or_other i c = elim (cases_Bool (eqb i c)) [ inl p ↦ inl (eqb-true _ _ p) | inr p ↦ inr (λ q. eqb-false _ _ p (sym q)) ]

pub count-with_op : (h : Sessions) (i : ℕ) (op : Operation) → i < length h → count_of (with_op h i op) ≡ count_of h + 1
count-with_op h i op inside =
    let s = get_or h i [] in
    omega (arith, sum_by-set length h i (s ++ op ∷ []) [] inside, length-append s (op ∷ []))

-- a session with one more operation
count-push : (s : List Operation) (op : Operation) → count_by is_put (s ++ op ∷ []) ≡ count_by is_put s + flag_count (is_put op)
count-push [] (write key content version) = refl
count-push [] (read key content version) = refl
count-push [] (missed key) = refl
count-push (x ∷ s) op =
    let f : Operation → ℕ = λ y. cond (is_put y) 1 0 in
    omega (arith, sum_by-cons f x (s ++ op ∷ []), sum_by-cons f x s, count-push s op)

pub puts-with_op : (h : Sessions) (i : ℕ) (op : Operation) → i < length h → put_count (with_op h i op) ≡ put_count h + flag_count (is_put op)
puts-with_op h i op inside =
    let s = get_or h i [] in
    omega (arith, sum_by-set (count_by is_put) h i (s ++ op ∷ []) [] inside, count-push s op)

pub puts-none : (n : ℕ) → put_count (replicate n []) ≡ 0
puts-none n = omega (arith, sum_by-replicate (count_by is_put) n [])

-- the puts are among the operations
pub puts-le : (h : Sessions) → put_count h ≤ count_of h
puts-le [] = omega arith
puts-le (s ∷ h) = omega (arith, sum_by-cons (count_by is_put) s h, sum_by-cons length s h, count_by-le-length is_put s, puts-le h)

pub within_with_op : (h : Sessions) (i : ℕ) (op : Operation) → ((i < length h) × (length (get_or h i []) < 1000000) × (count_of h < 16000000)) → IsWithinLimits h → IsWithinLimits (with_op h i op)
within_with_op h i op ok w =
    let s = get_or h i [] in
    let inside = ok.0 in
    record {
      clients = omega (arith, length-set h i (s ++ op ∷ []), w.clients);
      each = λ c. elim (at_or_other i c) [
        | inl p ↦
            subst (λ (d : ℕ). length (get_or (set h i (s ++ op ∷ [])) d []) ≤ 1000000) p
            (let e = get_or-set_same h i (s ++ op ∷ []) [] inside in omega (arith, ap length e, length-append s (op ∷ [])))
        | inr p ↦ let e = get_or-set_other h i c (s ++ op ∷ []) [] p in omega (arith, ap length e, w.each c)
      ];
      all = omega (arith, count-with_op h i op inside);
    }

-- ---- lists as they are stored

module _ {V X : Type 0} (items : V → List X) (has_room : V → Bool) where
  -- the items at an index are those of the element there
  pub own_items : (xs : List V) (i : ℕ) (old : V) → i < length xs → old ≡ get_or xs i old → get_or (map items xs) i [] ≡ items old
  own_items xs i old inside at = get_or-map items xs i old [] inside ∙ ap items (sym at)

  -- replacing an element by one with one more item
  pub more_items : (xs : List V) (i : ℕ) (old new : V) (x : X) → i < length xs → old ≡ get_or xs i old → items new ≡ items old ++ x ∷ []
      → map items (set xs i new) ≡ with_item (map items xs) i x
  more_items xs i old new x inside at more =
      map-set items xs i new ∙ ap (set (map items xs) i) (more ∙ ap (λ (s : List X). s ++ x ∷ []) (sym (own_items xs i old inside at)))

  -- the other elements keep their room
  pub others_room : (xs : List V) (i c : ℕ) (new : V) → c ≢ i → get_or (map has_room xs) c false ≡ true → get_or (map has_room (set xs i new)) c false ≡ true
  others_room xs i c new other room = ap (λ (l : List Bool). get_or l c false) (map-set has_room xs i new) ∙ get_or-set_other (map has_room xs) i c (has_room new) false other ∙ room

  -- the new element has its own room
  pub own_room : (xs : List V) (i : ℕ) (new : V) → i < length xs → get_or (map has_room (set xs i new)) i false ≡ has_room new
  own_room xs i new inside =
      ap (λ (l : List Bool). get_or l i false) (map-set has_room xs i new) ∙ get_or-set_same (map has_room xs) i (has_room new) false (omega (arith, inside, length-map xs has_room))

  -- no room is lost if the new element has room whenever the old one had
  pub kept_room : (xs : List V) (i c : ℕ) (old new : V) → i < length xs → old ≡ get_or xs i old → (has_room old ≡ true → has_room new ≡ true)
      → get_or (map has_room xs) c false ≡ true → get_or (map has_room (set xs i new)) c false ≡ true
  kept_room xs i c old new inside at keeps room =
      elim (at_or_other i c) [
        | inl p ↦
            let was : get_or (map has_room xs) i false ≡ true = subst (λ (d : ℕ). get_or (map has_room xs) d false ≡ true) (sym p) room in
            let has : has_room new ≡ true = keeps (ap has_room at ∙ sym (get_or-map has_room xs i old false inside) ∙ was) in
            subst (λ (d : ℕ). get_or (map has_room (set xs i new)) d false ≡ true) p (own_room xs i new inside ∙ has)
        | inr p ↦ others_room xs i c new p room
      ]

-- what always holds also holds on an error
pub at_error : {T E : Type 0} (r : Result T E) (P : Type 0) → P → OnErr r P
at_error (Ok x) P h = tt
at_error (Err e) P h = h
