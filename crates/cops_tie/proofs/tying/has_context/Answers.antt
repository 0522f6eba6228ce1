use Rattle.std.proofs.Common.{◌≡◌, sym, ap, ap₂, ◌∙◌}
use Rattle.std.specs.Cmp.Lexicographic.{pointwise}
use Rattle.cops_types.specs.Dep.{is_same_dep}
use Rattle.cops_core.specs.World.{context_in}
use Rattle.cops_node.proofs.Same.{pointwise_true, pointwise_refl, same_pair_true, same_pair_refl}
use Rattle.cops_tie.proofs.tying.has_context.Goals as goal

pub returns : goal.returns
returns c =
    let e : c.eq.result ≡ pointwise is_same_dep (context_in c.args.world.now.world c.args.client) c.args.deps.now =
    c.eq.ensures ∙ ap₂ (pointwise is_same_dep) (c.as_slice.ensures.pairs ∙ c.in_ok-context.ensures.ok) c.as_slice-2.ensures.pairs in (
      λ t. sym (pointwise_true is_same_dep same_pair_true _ _ (sym e ∙ t)),
      λ f. e ∙ ap (λ ds. pointwise is_same_dep ds c.args.deps.now) (sym f) ∙ pointwise_refl is_same_dep same_pair_refl c.args.deps.now,
    )
