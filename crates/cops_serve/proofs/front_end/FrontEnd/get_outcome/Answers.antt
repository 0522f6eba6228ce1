use Rattle.std.proofs.Common.{refl, rules}
use Rattle.cops_types.specs.declared.refusal.Refusal.TheVariants.{ContextFull, UnknownClient}
use Rattle.cops_serve.proofs.Changes.{changed, got_of, no_get, some_refusal, where_refused}
use Rattle.cops_serve.proofs.Seats.{kept}
use Rattle.cops_serve.proofs.front_end.FrontEnd.get_outcome.Goals as goal

pub returns-in_default-clone-clause-done : goal.returns-in_default-clone-clause-done
returns-in_default-clone-clause-done g c =
    rw c.in-Some.is (
      (refl, refl, refl, refl, refl, refl),
      changed _ _ _ _ _ _ c.from.ensures c.in-Some-get_mut.ensures.item.3
          (no_get c.args.self.now.cluster c.args.key.now c.in-Some-get_mut.client.now),
    )

pub returns-clause-done : goal.returns-clause-done
returns-clause-done g c =
    let p = c.in-Ok-get.ensures in
    rw c.in-Some.is (
      (refl, refl, refl, refl, refl, refl),
      changed _ _ _ _ _ _ c.from.ensures c.in-Some-get_mut.ensures.item.3
          (got_of c.args.self.now.cluster c.args.key.now c.in-Ok.key c.in-Ok-get.outcome c.in-Some-get_mut.client.now c.get.new.client (search rules) (
            p.owner,
            p.reported,
            p.context,
            where_refused _ c.get.result _ UnknownClient c.in-Ok-get.is c.get.ensures.unknown.0,
            where_refused _ c.get.result _ ContextFull c.in-Ok-get.is c.get.ensures.only_full,
            λ full. some_refusal c.get.result _ c.in-Ok-get.is (c.get.ensures.refused full),
          )),
    )

pub invariant_of-self-2-clause-seated : goal.invariant_of-self-2-clause-seated
invariant_of-self-2-clause-seated g c = kept _ _ _ _ _ _ _ c.args.self.now.seated c.in-Some-get_mut.ensures.item.3.1 c.get.ensures.owner.2
