use Rattle.std.proofs.Common.{◌≡◌, sym, ap, ap₂, ◌∙◌}
use Rattle.std.specs.Cmp.Lexicographic.{pointwise}
use Rattle.cops_types.specs.Dep.{is_same_dep}
use Rattle.cops_node.proofs.Same.{pointwise_true, pointwise_refl, same_pair_true, same_pair_refl}
use Rattle.cops_node.proofs.equal.is_same_deps.Goals as goal

pub returns : goal.returns
returns c =
    let e : c.eq.result ≡ pointwise is_same_dep c.args.one.now c.args.other.now = c.eq.ensures ∙ ap₂ (pointwise is_same_dep) c.as_slice.ensures.pairs c.as_slice-2.ensures.pairs in (
      λ t. pointwise_true is_same_dep same_pair_true _ _ (sym e ∙ t),
      λ f. e ∙ ap (λ ds. pointwise is_same_dep ds c.args.other.now) f ∙ pointwise_refl is_same_dep same_pair_refl c.args.other.now,
    )
