-- Marks that are set one by one.
use Rattle.std.proofs.Common.{rules, ◌≡◌, ◌∙◌, List, [], ◌∷◌, ◌++◌, Some, None, sym, ap, subst, arith, inl, inr}
use Rattle.std.specs.Prelude.{Contains}
use Rattle.std.proofs.lemmas.List.{length_push}
use Rattle.std.proofs.lemmas.List.Elements.{Contains-append_left, Contains-push, Contains-push_cases}
use Rattle.cops_types.specs.declared.op.OpName.{OpName}
use Rattle.cops_types.specs.Histories.{Sessions}
use Rattle.cops_types.specs.Past.{Step}
use Rattle.cops_report.specs.declared.marks.Mark.{Mark}
use Rattle.cops_report.specs.Marks.{Table, Gains, HasPlace, mark_at, with_mark}
use Rattle.cops_audit.proofs.Differing.{name_cases}
use Rattle.cops_report.proofs.Tables.{mark_at-other, mark_at-same, open-with_mark, place-with_mark}

pub gains_none : (h : Sessions) (mark : Mark) (t : Table) (names : List OpName) → Gains h mark t t names names
gains_none h mark t names = search rules

pub gains_more : (h : Sessions) (mark : Mark) (s t u : Table) (names more most : List OpName) → Gains h mark s t names more → Gains h mark t u more most → Gains h mark s u names most
gains_more h mark s t u names more most a b = search rules

pub gains_one : (h : Sessions) (mark : Mark) (t : Table) (names : List OpName) (n : OpName) → HasPlace t n → mark_at t n ≡ None → Step h n mark.next
    → Gains h mark t (with_mark t n mark) names (names ++ n ∷ [])
gains_one h mark t names n there none st = record {
  kept = λ k m e. elim (name_cases k n) [
    | inl same ↦ (let at : mark_at t k ≡ None = ap (mark_at t) same ∙ none in absurd cc)
    | inr other ↦ mark_at-other t n k mark other ∙ e
  ];
  gained = λ k m e. elim (name_cases k n) [
    | inl same ↦
        let at : mark_at (with_mark t n mark) k ≡ Some mark = ap (mark_at (with_mark t n mark)) same ∙ mark_at-same t n mark there in
        let is : m ≡ mark = cc in
        inr (ap (mark_at t) same ∙ none, is, subst (λ (x : OpName). Step h x mark.next) (sym same) st, subst (Contains (names ++ n ∷ [])) (sym same) (Contains-push names n))
    | inr other ↦ inl (sym (mark_at-other t n k mark other) ∙ e)
  ];
  listed = λ k c. elim (Contains-push_cases names n k c) [
    | inl old ↦ inl old
    | inr same ↦ inr (ap (mark_at t) (sym same) ∙ none, ap (mark_at (with_mark t n mark)) (sym same) ∙ mark_at-same t n mark there)
  ];
  stays = λ k c. Contains-append_left names (n ∷ []) k c;
  count = omega (arith, open-with_mark t n mark there none, length_push names n);
  places = λ k. (λ p. omega (arith, place-with_mark t n k mark), λ p. omega (arith, place-with_mark t n k mark));
}
