use Rattle.std.proofs.Common.{refl, sym, arith}
use Rattle.cops_serve.proofs.Changes.{there_in, not_home}
use Rattle.cops_serve.proofs.front_end.FrontEnd.home_of.Goals as goal

pub returns-then-dc-dcs-clause-some : goal.returns-then-dc-dcs-clause-some
returns-then-dc-dcs-clause-some c = (
  refl,
  (
    c.in_ok-get.field-0.now,
    there_in _ _ _ _ _ c.deref.ensures.value c.from.ensures c.in_ok-get.ensures.lookup.3,
    sym c.dc-dc.ensures,
    omega (arith, c.if-dc-dcs.true, c.dcs.ensures.value),
  ),
)

pub returns-else-dc-dcs-clause-none : goal.returns-else-dc-dcs-clause-none
returns-else-dc-dcs-clause-none c =
    λ dc h. not_home c.args.self.now.clients.items c.args.client c.args.self.now.cluster.place.dcs dc c.in_ok-get.field-0.now
    (there_in _ _ _ _ _ c.deref.ensures.value c.from.ensures c.in_ok-get.ensures.lookup.3)
    (omega (arith, c.if-dc-dcs.false, c.dcs.ensures.value, c.dc-dc.ensures)) h
