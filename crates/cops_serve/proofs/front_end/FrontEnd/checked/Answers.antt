use Rattle.std.proofs.Common.{refl, ap, ◌∙◌}
use Rattle.cops_node.specs.declared.outcome.Outcome.TheVariants.{Wait}
use Rattle.cops_cluster.specs.Lending.{with_share}
use Rattle.cops_cluster.specs.Receiving.{outcome_of}
use Rattle.cops_serve.proofs.Changes.{changed, asked_of}
use Rattle.cops_cluster.specs.declared.share.Share.{Share}
use Rattle.cops_serve.proofs.Seats.{kept}
use Rattle.cops_serve.proofs.front_end.FrontEnd.checked.Goals as goal

pub returns-in_default-clause-done : goal.returns-in_default-clause-done
returns-in_default-clause-done g c = (Wait, c.not_yet.ensures.reported, rw c.in_default.is ((refl, refl, refl, refl, refl, refl), (refl, refl)))

pub returns-clause-done : goal.returns-clause-done
returns-clause-done g c =
    let client = c.in-Some-get_mut.client.now in
    let out = outcome_of c.in-Ok.asked in (
      out,
      c.check_replies.ensures.reported,
      rw c.in-Some.is (
        (refl, refl, refl, refl, refl, refl),
        changed _ _ _ _ _ (with_share client c.ask.new.share) c.from.ensures c.in-Some-get_mut.ensures.item.3
            (asked_of c.args.self.now.cluster c.in-Some.greeted.dc c.args.key.now c.args.version out client c.share-share.result.now c.ask.new.share
            c.share-share.ensures.value c.in-Ok.ensures.owner c.in-Ok.ensures.reported),
      ),
    )

pub invariant_of-self-clause-seated : goal.invariant_of-self-clause-seated
invariant_of-self-clause-seated g c =
    let client = c.in-Some-get_mut.client.now in
    kept _ _ _ _ _ client (with_share client c.ask.new.share) c.args.self.now.seated c.in-Some-get_mut.ensures.item.3.1
    (c.ask.ensures.owner ∙ ap (λ (s : Share). s.holder) c.share-share.ensures.value)
