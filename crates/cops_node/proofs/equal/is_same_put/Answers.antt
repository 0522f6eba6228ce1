use Rattle.std.proofs.Common.{◌≡◌, ℕ, List, Option, sym, ap, ap₂, ◌∙◌, eqb-true}
use Rattle.std.specs.Cmp.Lexicographic.{pointwise, same_text}
use Rattle.cops_types.specs.declared.dep.Dep.{Dep}
use Rattle.cops_types.specs.declared.put_record.PutRecord.{PutRecord}
use Rattle.cops_types.specs.Dep.{is_same_dep}
use Rattle.cops_node.proofs.Same.{pointwise_true, pointwise_refl, same_pair_true, same_pair_refl, not_false}
use Rattle.cops_node.proofs.equal.is_same_put.Goals as goal

same_put : (a b : PutRecord) → a.key ≡ b.key → a.value ≡ b.value → a.version ≡ b.version → a.deps ≡ b.deps → a ≡ b
same_put a b e f g h = ap (λ (p : List ℕ × (Option (List ℕ) × (ℕ × List Dep))). let r : PutRecord = record { key = p.0; value = p.1.0; version = p.1.1.0; deps = p.1.1.1 } in r)
    (let q : (a.key, (a.value, (a.version, a.deps))) ≡ (b.key, (b.value, (b.version, b.deps))) = cc in q)

pub returns : goal.returns
returns c =
    let one = c.args.one.now in
    let other = c.args.other.now in
    let keys : one.key ≡ other.key = same_text one.key other.key (sym (not_false _ (sym c.ne.ensures ∙ c.if-ne.false))) in
    let values : one.value ≡ other.value = sym c.as_ref.ensures.value ∙ c.is_same_content.ensures.0 c.if-not-is_same_content.false ∙ c.as_ref-2.ensures.value in
    let versions : one.version ≡ other.version = eqb-true one.version other.version (not_false _ (sym c.ne-2.ensures ∙ c.if-ne-2.false)) in
    let e : c.eq.result ≡ pointwise is_same_dep one.deps other.deps = c.eq.ensures ∙ ap₂ (pointwise is_same_dep) c.as_slice.ensures.pairs c.as_slice-2.ensures.pairs in (
      λ t. same_put one other keys values versions (pointwise_true is_same_dep same_pair_true _ _ (sym e ∙ t)),
      λ f. e ∙ ap (λ (p : PutRecord). pointwise is_same_dep p.deps other.deps) f ∙ pointwise_refl is_same_dep same_pair_refl other.deps,
    )
