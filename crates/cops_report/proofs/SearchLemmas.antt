-- A search continues, name by name.
use Rattle.std.proofs.Common.{rules, ◌≡◌, ◌≢◌, ◌∙◌, ◌+◌, ◌≤◌, ◌⊎◌, ℕ, List, [], ◌∷◌, ◌++◌, Some, None, refl, sym, ap, subst, arith, inl, inr}
use Rattle.std.specs.Prelude.{Contains}
use Rattle.std.proofs.lemmas.Bool.{cases_lt}
use Rattle.std.proofs.lemmas.List.Elements.{Contains-push_cases}
use Rattle.cops_types.specs.declared.op.OpName.{OpName}
use Rattle.cops_types.specs.Histories.{Sessions}
use Rattle.cops_types.specs.Past.{Step}
use Rattle.cops_report.specs.declared.marks.Mark.{Mark}
use Rattle.cops_report.specs.Marks.{Table, Gains, IsMarked, mark_at}
use Rattle.cops_report.specs.Searches.{HasSteps, IsAtOrBefore, IsSearch}

pub one_steps : (t : Table) (n : OpName) (j k : ℕ) → HasSteps t n j → HasSteps t n k → j ≡ k
one_steps t n j k a b = (let same : Some a.0 ≡ Some b.0 = sym a.1 ∙ b.1 in cc)

pub steps_kept : (h : Sessions) (mark : Mark) (s t : Table) (names more : List OpName) (n : OpName) (k : ℕ) → Gains h mark s t names more → HasSteps s n k → HasSteps t n k
steps_kept h mark s t names more n k g a = (a.0, g.kept n a.0 a.1, a.2)

-- a name that has k steps, which are not the mark's, had them before
pub steps_before : (h : Sessions) (mark : Mark) (s t : Table) (names more : List OpName) (n : OpName) (k : ℕ) → Gains h mark s t names more → k ≢ mark.steps → HasSteps t n k → HasSteps s n k
steps_before h mark s t names more n k g other a = search rules

module _ (h : Sessions) (to : OpName) (mark : Mark) (s t : Table) (d : ℕ) (done names more : List OpName)
    (i : IsSearch h to s d done) (g : Gains h mark s t names more) (steps : mark.steps ≡ d + 1) (here : HasSteps s mark.next d)
    (later : (n : OpName) → HasSteps s n d → Contains done n ⊎ IsAtOrBefore mark.next n) (all : (a : OpName) → Step h a mark.next → IsMarked t a) where
  keeps : (n : OpName) (k : ℕ) → HasSteps s n k → HasSteps t n k
  keeps n k a = steps_kept h mark s t names more n k g a

  -- a name that has fewer steps than the mark had them before
  before : (n : OpName) (k : ℕ) → k ≤ d → HasSteps t n k → HasSteps s n k
  before n k low a = steps_before h mark s t names more n k g (λ e. absurd (omega arith)) a

  bound_now : (n : OpName) (k : ℕ) → HasSteps t n k → k ≤ d + 1
  bound_now n k a = elim (g.gained n a.0 a.1) [
    | inl old ↦ i.bound n k (a.0, old, a.2)
    | inr new ↦ (let e : a.0.steps ≡ mark.steps = ap (λ (m : Mark). m.steps) new.1 in omega (arith, a.2))
  ]

  near_now : (a b : OpName) (k : ℕ) → HasSteps t b k → k ≤ d → (k ≡ d → Contains (done ++ mark.next ∷ []) b) → Step h a b → (j : ℕ) × HasSteps t a j × (j ≤ k + 1)
  near_now a b k has low why st = elim (cases_lt k d) [
    | inl below ↦ old (λ e. absurd (omega arith))
    | inr top ↦ elim (Contains-push_cases done mark.next b (why (omega arith))) [
      | inl there ↦ old (λ e. there)
      | inr is ↦
          let m = all a (subst (Step h a) (sym is) st) in
          let high : m.0.steps ≤ d + 1 = bound_now a m.0.steps (m.0, m.1, refl) in
          (m.0.steps, (m.0, m.1, refl), omega arith)
    ]
  ]
    where
      old : (k ≡ d → Contains done b) → (j : ℕ) × HasSteps t a j × (j ≤ k + 1)
      old there = (let r = i.near a b k (before b k low has) low there st in (r.0, keeps a r.0 r.1, r.2))

  first_now : (a b : OpName) (m : Mark) (k : ℕ) → mark_at t a ≡ Some m → m.steps ≡ k + 1 → HasSteps t b k → Step h a b → IsAtOrBefore m.next b
  first_now a b m k e count has st =
      let top : k + 1 ≤ d + 1 = bound_now a (k + 1) (m, e, count) in
      let old_b : HasSteps s b k = before b k (omega arith) has in
      elim (g.gained a m e) [
        | inl old ↦ i.first a b m k old count old_b st
        | inr new ↦
            let e2 : m.steps ≡ mark.steps = ap (λ (x : Mark). x.steps) new.1 in
            let same : k ≡ d = omega arith in
            elim (later b (subst (HasSteps s b) same old_b)) [
              | inl was_done ↦ (let r = i.near a b k old_b (omega arith) (λ e. was_done) st in absurd (let f : Some r.1.0 ≡ None = sym r.1.1 ∙ new.0 in cc))
              | inr at ↦ subst (λ (x : Mark). IsAtOrBefore x.next b) (sym new.1) at
            ]
      ]

  pub search_more : IsSearch h to t d (done ++ mark.next ∷ [])
  search_more = record {
    root = keeps to 0 i.root;
    only_root = λ n a. i.only_root n (before n 0 (omega arith) a);
    step = λ n m k e count. elim (g.gained n m e) [
      | inl old ↦ (let was = i.step n m k old count in (was.0, keeps m.next k was.1))
      | inr new ↦
          let e2 : m.steps ≡ mark.steps = ap (λ (x : Mark). x.steps) new.1 in
          let at : d ≡ k = omega arith in
          subst (λ (x : Mark). Step h n x.next × HasSteps t x.next k) (sym new.1) (new.2, subst (HasSteps t mark.next) at (keeps mark.next d here))
    ];
    bound = bound_now;
    near = near_now;
    first = first_now;
  }
