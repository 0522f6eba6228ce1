-- From one level of a search to the next.
use Rattle.std.proofs.Common.{rules, ◌≡◌, ◌≢◌, ◌∙◌, ◌+◌, ◌<◌, ◌⊎◌, ℕ, List, [], ◌∷◌, length, take, get_or, Some, None, refl, sym, ap, subst, arith, inl, inr}
use Rattle.std.specs.Prelude.{Contains}
use Rattle.std.specs.List.Sorted.{IsPermutation}
use Rattle.std.proofs.lemmas.List.{get_or_default, get_or-take, length-take}
use Rattle.std.proofs.lemmas.List.Elements.{Contains-get_or, Contains-push_cases}
use Rattle.std.proofs.lemmas.List.Sorted.{Contains-permutation, IsPermutation-sym}
use Rattle.std.proofs.lemmas.Bool.{cases_lt}
use Rattle.cops_types.specs.declared.op.OpName.{OpName}
use Rattle.cops_types.specs.Histories.{Sessions, IsNamed}
use Rattle.cops_report.specs.declared.marks.Mark.{Mark}
use Rattle.cops_report.specs.Marks.{Table, Gains, PlacesAll, SessionsMarked, mark_at, unmarked, with_mark}
use Rattle.cops_report.specs.Searches.{HasSteps, IsAtOrBefore, IsLevel, IsRising, IsSearch}
use Rattle.cops_audit.proofs.Differing.{name_cases}
use Rattle.cops_report.proofs.SearchLemmas.{steps_before, steps_kept}
use Rattle.cops_report.proofs.Tables.{mark_at-other, mark_at-same, mark_at-unmarked, place_marked, places-unmarked}

pub none_contained : {X : Type 0} (x : X) → ¬ Contains {X = X} [] x
none_contained x c = absurd (omega (arith, c.1))

-- the names that got the mark are the next level
pub level_next : (h : Sessions) (mark : Mark) (s t : Table) (names more : List OpName) (k : ℕ) → mark.steps ≡ k → Gains h mark s t names more → IsLevel s k names → IsLevel t k more
level_next h mark s t names more k is g level n = (
  λ c. elim (g.listed n c) [
    | inl old ↦ steps_kept h mark s t names more n k g ((level n).0 old)
    | inr new ↦ (mark, new.1, is)
  ],
  λ a. elim (g.gained n a.0 a.1) [
    | inl old ↦ g.stays n ((level n).1 (a.0, old, a.2))
    | inr new ↦ new.3
  ],
)

-- the other levels stay
pub level_same : (h : Sessions) (mark : Mark) (s t : Table) (names more level : List OpName) (k : ℕ) → k ≢ mark.steps → Gains h mark s t names more → IsLevel s k level → IsLevel t k level
level_same h mark s t names more level k other g is n = (
  λ c. steps_kept h mark s t names more n k g ((is n).0 c),
  λ a. (is n).1 (steps_before h mark s t names more n k g other a),
)

-- a name of a level is an operation
pub level_named : (h : Sessions) (t : Table) (k : ℕ) (level : List OpName) (i : ℕ) (d : OpName) → PlacesAll t h → IsLevel t k level → i < length level → IsNamed h (get_or level i d)
level_named h t k level i d places is lt =
    let n = get_or level i d in
    let a = (is n).0 (Contains-get_or level i d lt) in
    (places n).0 (place_marked t n (a.0, a.1))

contains_taken : (xs : List OpName) (i j : ℕ) (x : OpName) → j < i → j < length xs → get_or xs j x ≡ x → Contains (take i xs) x
contains_taken xs i j x lt inside at = (j, omega (arith, length-take i xs), get_or-take i xs j x lt ∙ at)

-- the names of a rising level that are not done yet are at or after the current one
pub not_before : (t : Table) (k : ℕ) (level : List OpName) (i : ℕ) (d : OpName) → IsLevel t k level → IsRising level → i < length level → (n : OpName) → HasSteps t n k
    → Contains (take i level) n ⊎ IsAtOrBefore (get_or level i d) n
not_before t k level i d is rising lt n a =
    let c = (is n).1 a in
    elim (cases_lt c.0 i) [
      | inl low ↦ inl (contains_taken level i c.0 n low c.1 c.2)
      | inr high ↦ inr (subst (IsAtOrBefore (get_or level i d)) (get_or_default level c.0 d n c.1 ∙ c.2) (rising i c.0 d high c.1))
    ]

-- before an earlier operation of the session that has no more steps, all are marked
pub sessions_marked : (h : Sessions) (to : OpName) (t : Table) (d : ℕ) (level : List OpName) (i : ℕ) (e : OpName) → i < length level → IsRising level → IsLevel t d level
    → IsSearch h to t d (take i level) → SessionsMarked h t (record { steps = d + 1; next = get_or level i e })
sessions_marked h to t d level i e lt rising is search n own near before st =
    let r = search.near before n near.0.steps (near.0, near.1, refl) (omega (arith, near.2)) why (inl st) in (r.1.0, r.1.1)
  where
    not_after : (a b : OpName) → b.client ≡ a.client → b.index < a.index → ¬ IsAtOrBefore a b
    not_after a b c lt at = grind arith

    why : near.0.steps ≡ d → Contains (take i level) n
    why same = elim (not_before t d level i e is rising lt n (near.0, near.1, same)) [ inl done ↦ done | inr at ↦ absurd (not_after (get_or level i e) n own.same_client own.earlier at) ]

-- the level is done, and the search is before the next one
pub level_end : (h : Sessions) (to : OpName) (t : Table) (d : ℕ) (level : List OpName) → IsSearch h to t d level → IsLevel t d level → IsSearch h to t (d + 1) []
level_end h to t d level i is = record {
  root = i.root;
  only_root = i.only_root;
  step = i.step;
  bound = λ n k a. omega (arith, i.bound n k a);
  near = λ a b k has low why st.
      let other : k ≢ d + 1 = λ e. none_contained b (why e) in
      i.near a b k has (omega arith) (λ e. (is b).1 (subst (HasSteps t b) e has)) st;
  first = i.first;
}

-- beyond the next level nothing is marked yet
pub fresh_end : (h : Sessions) (to : OpName) (t : Table) (d : ℕ) (level : List OpName) → IsSearch h to t d level → IsLevel t (d + 1 + 1) []
fresh_end h to t d level i n = (λ c. absurd (none_contained n c), λ a. absurd (omega (arith, i.bound n (d + 1 + 1) a)))

-- the same names in another order
pub level_permuted : (t : Table) (k : ℕ) (xs ys : List OpName) → IsPermutation xs ys → IsLevel t k xs → IsLevel t k ys
level_permuted t k xs ys p is n = (λ c. (is n).0 (Contains-permutation ys xs n (IsPermutation-sym xs ys p) c), λ a. Contains-permutation xs ys n p ((is n).1 a))

-- ---- the beginning

module _ (h : Sessions) (to : OpName) (m0 : Mark) (is0 : m0.steps ≡ 0) (named : IsNamed h to) where
  abbrev start : Table
  start = with_mark (unmarked h) to m0

  only : (n : OpName) (m : Mark) → mark_at start n ≡ Some m → (n ≡ to) × (m ≡ m0)
  only n m e = elim (name_cases n to) [
    | inl same ↦
        let there = (places-unmarked h to).1 named in
        let at : mark_at (with_mark (unmarked h) to m0) n ≡ Some m0 = ap (mark_at (with_mark (unmarked h) to m0)) same ∙ mark_at-same (unmarked h) to m0 there in
        (same, cc)
    | inr other ↦ (let none = sym (mark_at-other (unmarked h) to n m0 other ∙ mark_at-unmarked h n) ∙ e in absurd (let f : None ≡ Some m = none in cc))
  ]

  only_steps : (n : OpName) (k : ℕ) → HasSteps start n k → k ≡ 0
  only_steps n k a = sym a.2 ∙ ap (λ (m : Mark). m.steps) (only n a.0 a.1).1 ∙ is0

  pub root_steps : HasSteps (with_mark (unmarked h) to m0) to 0
  root_steps = (m0, mark_at-same (unmarked h) to m0 ((places-unmarked h to).1 named), is0)

  pub search_start : IsSearch h to (with_mark (unmarked h) to m0) 0 []
  search_start = record {
    root = root_steps;
    only_root = λ n a. (only n a.0 a.1).0;
    step = λ n m k e count. absurd (omega (arith, only_steps n (k + 1) (m, e, count)));
    bound = λ n k a. omega (arith, only_steps n k a);
    near = λ a b k has low why st. absurd (none_contained b (why (only_steps b k has)));
    first = λ a b m k e count has st. absurd (omega (arith, only_steps a (k + 1) (m, e, count)));
  }

  pub level_start : (names : List OpName) → names ≡ to ∷ [] → IsLevel (with_mark (unmarked h) to m0) 0 names
  level_start names is n = rw is (
    λ c. elim (Contains-push_cases [] to n c) [ inl none ↦ absurd (none_contained n none) | inr e ↦ subst (λ (x : OpName). HasSteps (with_mark (unmarked h) to m0) x 0) e root_steps ],
    λ a. (0, omega arith, sym (only n a.0 a.1).0),
  )

  pub fresh_start : IsLevel (with_mark (unmarked h) to m0) (0 + 1) []
  fresh_start n = (λ c. absurd (none_contained n c), λ a. absurd (omega (arith, only_steps n (0 + 1) a)))

pub rising_one : (names : List OpName) (to : OpName) → names ≡ to ∷ [] → IsRising names
rising_one names to is j k d le lt = search rules
