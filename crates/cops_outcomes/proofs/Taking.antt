-- The versions that puts of unknown outcome take, one after another.
use Rattle.std.proofs.Common.{◌≡◌, ◌+◌, ◌<◌, ℕ, zero, suc, Bool, false, cond, nat_eq, List, [], ◌∷◌, ◌++◌, length, map, set, get_or, drop, slice_get, Option, None, Some, refl, sym, ap, ◌∙◌, subst, arith}
use Rattle.std.specs.Prelude.{filter, not}
use Rattle.std.specs.List.{IsDistinct, count_by, list_any, position}
use Rattle.std.specs.Option.{option_to_list}
use Rattle.std.proofs.Math.Seq.{drop-nil}
use Rattle.std.proofs.lemmas.List.{get_or-map, length-map, map-set}
use Rattle.std.proofs.lemmas.List.Elements.{filter_agree}
use Rattle.std.proofs.lemmas.List.Sums.{sum_by-append}
use Rattle.cops_types.specs.Histories.{Operation}
use Rattle.cops_outcomes.specs.Outcomes.{free_versions, put_versions, returned_versions, outcome, same_write}
use Rattle.cops_outcomes.specs.Sightings.{AnOutcomes, IsAfter, IsSighted}
use Rattle.cops_outcomes.specs.declared.write.Write.{Write}
use Rattle.cops_outcomes.proofs.Places.{map_absent, map_changed, there, within, writes_equiv}
use Rattle.cops_outcomes.proofs.Seeing.{seen}

abbrev pub left : List Write → List (List ℕ) → AnOutcomes
left ws rs = record { writes = ws; rest = rs }

-- those of the versions that no put has
abbrev pub free_of : List ℕ → List ℕ → List ℕ
free_of ps versions = filter (λ version. not (list_any (nat_eq version) ps)) versions

module _ {S : Type 0} (keys : S → List ℕ) (ps : List ℕ) (ops : List Operation) (same : (q : ℕ) → list_any (nat_eq q) ps ≡ list_any (nat_eq q) (put_versions ops)) where
  all_free : (sets : List S) (ws : List Write) → map keys sets ≡ map (returned_versions ops) ws → map (λ s. free_of ps (keys s)) sets ≡ map (free_versions ops) ws
  all_free [] [] e = refl
  all_free [] (w ∷ ws) e = absurd cc
  all_free (s ∷ sets) [] e = absurd cc
  all_free (s ∷ sets) (w ∷ ws) e =
      let here : keys s ≡ returned_versions ops w = cc in
      let others : map keys sets ≡ map (returned_versions ops) ws = cc in
      let agree = filter_agree (λ q. not (list_any (nat_eq q) ps)) (λ q. not (list_any (nat_eq q) (put_versions ops))) (λ q. ap not (same q)) (keys s) in
      let first : free_of ps (keys s) ≡ free_versions ops w = agree ∙ ap (free_of (put_versions ops)) here in
      let rest = all_free sets ws others in
      cc

abbrev pub free_each : {S : Type 0} → (S → List ℕ) → List ℕ → List S → List (List ℕ)
free_each keys ps sets = map (λ s. free_of ps (keys s)) sets

-- nothing is taken yet
pub after_none : {S : Type 0} (keys : S → List ℕ) (sets : List S) (ws : List Write) (ps : List ℕ) (rest : List (List ℕ)) (ops : List Operation)
    → rest ≡ free_each keys ps sets → IsSighted (seen ws (map keys sets) ps) ops → IsAfter (left ws rest) ops []
after_none keys [] [] ps rest ops is h = record { rest = is }
after_none keys (s ∷ sets) [] ps rest ops is h = absurd (let e = h.returned in cc)
after_none keys sets (w ∷ ws) ps rest ops is h = record { rest = is ∙ all_free keys ps ops (h.puts (λ e. cc)) sets (w ∷ ws) h.returned }

drop_one : {A : Type 0} (n : ℕ) (xs : List A) → drop (n + 1) xs ≡ drop 1 (drop n xs)
drop_one zero xs = refl
drop_one (suc n) [] = drop-nil (suc n + 1)
drop_one (suc n) (x ∷ xs) = let e : suc n + 1 ≡ suc (n + 1) = omega arith in ap (λ m. drop m (x ∷ xs)) e ∙ drop_one n xs

get_first : {A : Type 0} (n : ℕ) (xs : List A) → slice_get (drop n xs) 0 ≡ slice_get xs n
get_first zero xs = refl
get_first (suc n) [] = refl
get_first (suc n) (x ∷ xs) = get_first n xs

-- what is taken from the front of a list
popped : (r : Option ℕ) (xs ys : List ℕ) → xs ≡ option_to_list r ++ ys → ys ≡ drop 1 xs → r ≡ slice_get xs 0
popped (Some v) xs ys is rest = sym (ap (λ l. slice_get l 0) is)
popped None [] ys is rest = refl
popped None (x ∷ xs) ys is rest = absurd (omega (arith, ap length is, ap length rest))

abbrev one_if : Bool → ℕ
one_if b = cond b 1 0

module _ (ws : List Write) (rs : List (List ℕ)) (ops : List Operation) (earlier : List Write) (h : IsAfter (left ws rs) ops earlier) (w : Write) where
  abbrev before : Write → List ℕ
  before x = drop (count_by (same_write x) earlier) (free_versions ops x)

  abbrev after : Write → List ℕ
  after x = drop (count_by (same_write x) (earlier ++ w ∷ [])) (free_versions ops x)

  count_more : (x : Write) → count_by (same_write x) (earlier ++ w ∷ []) ≡ count_by (same_write x) earlier + one_if (same_write x w)
  count_more x = let e = sum_by-append (λ y. one_if (same_write x y)) earlier (w ∷ []) in omega (arith, e)

  kept : (x : Write) → same_write w x ≡ false → after x ≡ before x
  kept x apart =
      let other : same_write x w ≡ false = writes_equiv.symm x w ∙ apart in
      let none : one_if (same_write x w) ≡ 0 = ap one_if other in
      let more = count_more x in
      let e : count_by (same_write x) (earlier ++ w ∷ []) ≡ count_by (same_write x) earlier = omega (arith, more, none) in
      ap (λ n. drop n (free_versions ops x)) e

  own : after w ≡ drop 1 (before w)
  own =
      let one : one_if (same_write w w) ≡ 1 = ap one_if (writes_equiv.refl w) in
      let more = count_more w in
      let e : count_by (same_write w) (earlier ++ w ∷ []) ≡ count_by (same_write w) earlier + 1 = omega (arith, more, one) in
      ap (λ n. drop n (free_versions ops w)) e ∙ drop_one (count_by (same_write w) earlier) (free_versions ops w)

  -- it is not one of the writes
  pub after_other : None ≡ position (same_write w) ws → IsAfter (left ws rs) ops (earlier ++ w ∷ [])
  after_other none = record { rest = h.rest ∙ sym (map_absent before after w kept ws none) }

  inside : (i : ℕ) → Some i ≡ position (same_write w) ws → i < length rs
  inside i e =
      let long : length rs ≡ length ws = ap length h.rest ∙ length-map ws before in
      let l = within w ws i e in
      omega (arith, long, l)

  was : (i : ℕ) (d : List ℕ) → Some i ≡ position (same_write w) ws → get_or rs i d ≡ before w
  was i d e = ap (λ (l : List (List ℕ)). get_or l i d) h.rest ∙ there before w ws i d e

  after_taking : (rs' : List (List ℕ)) (i : ℕ) (d : List ℕ) → IsDistinct same_write ws → Some i ≡ position (same_write w) ws → rs' ≡ set rs i (drop 1 (get_or rs i d))
      → IsAfter (left ws rs') ops (earlier ++ w ∷ [])
  after_taking rs' i d distinct e new =
      let is : drop 1 (get_or rs i d) ≡ after w = ap (drop 1) (was i d e) ∙ sym own in
      record { rest = new ∙ ap (λ (v : List ℕ). set rs i v) is ∙ ap (λ (l : List (List ℕ)). set l i (after w)) h.rest ∙ sym (map_changed before after w kept ws i distinct e) }

  taken : (i : ℕ) (d : List ℕ) → Some i ≡ position (same_write w) ws → slice_get (get_or rs i d) 0 ≡ outcome ops earlier w
  taken i d e = ap (λ (l : List ℕ). slice_get l 0) (was i d e) ∙ get_first (count_by (same_write w) earlier) (free_versions ops w)

-- `items` hold the free versions that are left, as `f` shows them
module _ {S : Type 0} (f : S → List ℕ) (ws : List Write) (items : List S) (ops : List Operation) (earlier : List Write) (h : IsAfter (left ws (map f items)) ops earlier) (w : Write)
    (i : ℕ) (e : Some i ≡ position (same_write w) ws) (s : S) (is : s ≡ get_or items i s) where
  held : get_or (map f items) i (f s) ≡ f s
  held =
      let l = inside ws (map f items) ops earlier h w i e in
      let long = length-map items f in
      let within : i < length items = omega (arith, l, long) in
      get_or-map f items i s (f s) within ∙ ap f (sym is)

  pub outcome_is : (r : Option ℕ) (rest : List ℕ) → f s ≡ option_to_list r ++ rest → rest ≡ drop 1 (f s) → r ≡ outcome ops earlier w
  outcome_is r rest all others =
      popped r (f s) rest all others ∙ ap (λ (l : List ℕ). slice_get l 0) (sym held) ∙ taken ws (map f items) ops earlier h w i (f s) e

  pub after_is : (t : S) → IsDistinct same_write ws → f t ≡ drop 1 (f s) → IsAfter (left ws (map f (set items i t))) ops (earlier ++ w ∷ [])
  after_is t distinct new =
      let e' : map f (set items i t) ≡ set (map f items) i (drop 1 (get_or (map f items) i (f s))) =
      map-set f items i t ∙ ap (λ (l : List ℕ). set (map f items) i l) (new ∙ ap (drop 1) (sym held)) in
      after_taking ws (map f items) ops earlier h w (map f (set items i t)) i (f s) distinct e e'

pub made : (o : AnOutcomes) (ws : List Write) (rest : List (List ℕ)) (ops : List Operation) (earlier : List Write) → o.writes ≡ ws → o.rest ≡ rest → IsAfter (left ws rest) ops earlier → IsAfter o ops earlier
made o ws rest ops earlier writes is h = let e : left ws rest ≡ o = (λ i. record { writes = sym writes i; rest = sym is i }) in subst (λ (p : AnOutcomes). IsAfter p ops earlier) e h
