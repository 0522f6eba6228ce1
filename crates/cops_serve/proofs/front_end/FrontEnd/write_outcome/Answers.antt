use Rattle.std.proofs.Common.{refl}
use Rattle.cops_serve.proofs.Changes.{changed}
use Rattle.cops_serve.proofs.Seats.{kept}
use Rattle.cops_serve.proofs.front_end.FrontEnd.write_outcome.Goals as goal

pub returns-clause-done : goal.returns-clause-done
returns-clause-done g c =
    rw c.in-Some.is (
      (refl, refl, refl, refl, refl, refl),
      changed _ _ _ _ _ _ c.from.ensures c.in-Some-get_mut.ensures.item.3 c.written.ensures.done,
    )

pub invariant_of-self-clause-seated : goal.invariant_of-self-clause-seated
invariant_of-self-clause-seated g c = kept _ _ _ _ _ _ _ c.args.self.now.seated c.in-Some-get_mut.ensures.item.3.1 c.written.ensures.done.0.2
