-- Tables of marks, as lists and as vectors.
use Rattle.std.proofs.Common.{◌≡◌, ◌≢◌, ℕ, zero, suc, ◌+◌, ◌<◌, List, [], ◌∷◌, map, length, get_or, replicate, Vec, Global, Option, Some, None, refl, sym, ap, ◌∙◌, arith, get_or-set_same, get_or-set_other, inl, inr, cond, ◌*◌}
use Rattle.std.specs.Prelude.{sum_by, count_by, is_none}
use Rattle.std.proofs.Math.ListN.{set, length-set, get_or-map as get_or-map_default}
use Rattle.std.proofs.lemmas.Option.{slice_get_within}
use Rattle.std.proofs.lemmas.Bool.{cases_eq, cases_lt}
use Rattle.std.proofs.lemmas.List.{map-set, get_or-map, length-replicate, set_past, get_or_past}
use Rattle.std.proofs.lemmas.List.Sums.{sum_by-cons, sum_by-set}
use Rattle.std.proofs.lemmas.List.Folds.{sum_by-replicate}
use Rattle.cops_types.specs.declared.op.OpName.{OpName}
use Rattle.cops_types.specs.Histories.{Sessions, Operation}
use Rattle.cops_types.specs.Counts.{count_of}
use Rattle.cops_audit.proofs.Acyclic.{same_name}
use Rattle.cops_audit.proofs.Listing.{slice_get_there}
use Rattle.cops_report.specs.declared.marks.Mark.{Mark}
use Rattle.cops_report.specs.Marks.{Table, HasPlace, IsMarked, PlacesAll, mark_at, open_places, unmarked, with_mark}

abbrev pub Session : Type 0
Session = Vec (Option Mark) Global

abbrev pub marks_of : Session → List (Option Mark)
marks_of s = s.items

-- a vector of sessions in which one session has one more mark
pub marked_session : (xs : List Session) (name : OpName) (old new : Session) (mark : Mark) → name.client < length xs → old ≡ get_or xs name.client old
    → new.items ≡ set old.items name.index (Some mark) → map marks_of (set xs name.client new) ≡ with_mark (map marks_of xs) name mark
marked_session xs name old new mark inside at more =
    map-set marks_of xs name.client new
    ∙ ap (set (map marks_of xs) name.client) (more ∙ ap (λ (s : List (Option Mark)). set s name.index (Some mark)) (ap marks_of at ∙ sym (get_or-map marks_of xs name.client old [] inside)))

-- ---- places

-- the client of a name that has a place is in the table
pub place_client : (t : Table) (name : OpName) → HasPlace t name → name.client < length t
place_client t name there = elim (cases_lt name.client (length t)) [ inl inside ↦ inside | inr past ↦ absurd (omega (arith, ap length (get_or_past t name.client [] past))) ]

abbrev no_marks : ℕ → List (Option Mark)
no_marks n = replicate n None

abbrev pub no_marks_of : List Operation → List (Option Mark)
no_marks_of s = replicate (length s) None

-- ---- marks

-- the session of the name has the mark, and the others stay
session-same : (t : Table) (n : OpName) (m : Mark) → get_or (with_mark t n m) n.client [] ≡ set (get_or t n.client []) n.index (Some m)
session-same t n m = elim (cases_lt n.client (length t)) [
  | inl inside ↦ get_or-set_same t n.client _ [] inside
  | inr past ↦
      let none : length (get_or t n.client []) ≡ 0 = ap length (get_or_past t n.client [] past) in
      ap (λ (x : Table). get_or x n.client []) (set_past t n.client _ past) ∙ sym (set_past (get_or t n.client []) n.index (Some m) (omega arith))
]

pub mark_at-same : (t : Table) (n : OpName) (m : Mark) → HasPlace t n → mark_at (with_mark t n m) n ≡ Some m
mark_at-same t n m there =
    ap (λ (x : List (Option Mark)). get_or x n.index None) (session-same t n m) ∙ get_or-set_same (get_or t n.client []) n.index (Some m) None there

-- the mark of another name stays, in another session or at another place
pub mark_at-other : (t : Table) (n k : OpName) (m : Mark) → k ≢ n → mark_at (with_mark t n m) k ≡ mark_at t k
mark_at-other t n k m other = elim (cases_eq k.client n.client) [
  | inl c ↦ rw (c, session-same t n m, get_or-set_other (get_or t n.client []) n.index k.index (Some m) None (λ i. other (same_name k n c i)))
  | inr c ↦ rw (get_or-set_other t n.client k.client (set (get_or t n.client []) n.index (Some m)) [] c)
]

-- a mark changes no place
pub place-with_mark : (t : Table) (n k : OpName) (m : Mark) → length (get_or (with_mark t n m) k.client []) ≡ length (get_or t k.client [])
place-with_mark t n k m = elim (cases_eq k.client n.client) [
  | inl c ↦ rw (c, session-same t n m, length-set (get_or t n.client []) n.index (Some m))
  | inr c ↦ rw (get_or-set_other t n.client k.client (set (get_or t n.client []) n.index (Some m)) [] c)
]

-- ---- open places

abbrev is_open : Option Mark → ℕ
is_open o = cond (is_none o) 1 0

count-set : (s : List (Option Mark)) (i : ℕ) (m : Mark) → i < length s → get_or s i None ≡ None → count_by is_none (set s i (Some m)) + 1 ≡ count_by is_none s
count-set s i m lt none =
    let one : is_open (get_or s i None) ≡ 1 = ap is_open none in
    let less : sum_by is_open (set s i (Some m)) + is_open (get_or s i None) ≡ sum_by is_open s + 0 = sum_by-set is_open s i (Some m) None lt in
    omega (arith, one, less)

pub open-with_mark : (t : Table) (n : OpName) (m : Mark) → HasPlace t n → mark_at t n ≡ None → open_places (with_mark t n m) + 1 ≡ open_places t
open-with_mark t n m there none =
    let s = get_or t n.client [] in
    let after = set s n.index (Some m) in
    omega (arith, sum_by-set (count_by is_none) t n.client after [] (place_client t n there), count-set s n.index m there none)

open-replicate : (n : ℕ) → count_by is_none (no_marks n) ≡ n
open-replicate n = let e : sum_by is_open (no_marks n) ≡ n * 1 = sum_by-replicate is_open n None in omega (arith, e)

-- a table with no marks has as many open places as there are operations
pub open-unmarked : (h : Sessions) → open_places (unmarked h) ≡ count_of h
open-unmarked [] = refl
open-unmarked (s ∷ h) =
    let e : open_places (unmarked (s ∷ h)) ≡ count_by is_none (no_marks_of s) + open_places (unmarked h) = sum_by-cons (count_by is_none) (no_marks_of s) (unmarked h) in
    let f : count_of (s ∷ h) ≡ length s + count_of h = sum_by-cons length s h in
    omega (arith, e, f, open-replicate (length s), open-unmarked h)

-- what is marked has a place
pub place_marked : (t : Table) (n : OpName) → IsMarked t n → HasPlace t n
place_marked t n m = elim (cases_lt n.index (length (get_or t n.client []))) [
  | inl inside ↦ inside
  | inr past ↦ (let none : mark_at t n ≡ None = get_or_past (get_or t n.client []) n.index None past in absurd (let e : None ≡ Some m.0 = sym none ∙ m.1 in cc))
]

-- ---- tables without marks

get_or-unmarked : (h : Sessions) (c : ℕ) → get_or (unmarked h) c [] ≡ no_marks_of (get_or h c [])
get_or-unmarked h c = get_or-map_default no_marks_of h c []

none_marked : (n i : ℕ) → get_or (no_marks n) i None ≡ None
none_marked zero i = refl
none_marked (suc n) zero = refl
none_marked (suc n) (suc i) = none_marked n i

pub mark_at-unmarked : (h : Sessions) (n : OpName) → mark_at (unmarked h) n ≡ None
mark_at-unmarked h n = ap (λ (s : List (Option Mark)). get_or s n.index None) (get_or-unmarked h n.client) ∙ none_marked (length (get_or h n.client [])) n.index

-- a table without marks has a place for each operation
pub places-unmarked : (h : Sessions) → PlacesAll (unmarked h) h
places-unmarked h n =
    let same : length (get_or (unmarked h) n.client []) ≡ length (get_or h n.client []) = ap length (get_or-unmarked h n.client) ∙ length-replicate (length (get_or h n.client [])) None in
    (λ p. slice_get_there (get_or h n.client []) n.index (omega arith), λ named. omega (arith, slice_get_within (get_or h n.client []) n.index named.0 named.1))

pub places-with_mark : (t : Table) (h : Sessions) (n : OpName) (m : Mark) → PlacesAll t h → PlacesAll (with_mark t n m) h
places-with_mark t h n m all k = (λ p. (all k).0 (omega (arith, place-with_mark t n k m)), λ named. omega (arith, place-with_mark t n k m, (all k).1 named))
