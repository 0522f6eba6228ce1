use Rattle.std.proofs.Common.{◌∙◌, sym, arith}
use Rattle.cops_core.proofs.Events.{asked, dc_there, place_there, settled_there, settled_nowhere}
use Rattle.cops_core.proofs.world.World.has_settled.Goals as goal

pub returns-then-dc-dcs : goal.returns-then-dc-dcs
returns-then-dc-dcs c =
    rw (← c.self.view_is)
    (sym (settled_nowhere c.self.inside.state c.args.dc (record { key = c.args.key.now; version = c.args.version }) c.dcs.ensures.setting c.self.invariant.reached (omega (arith, c.if-dc-dcs.true, c.dcs.ensures.count))))

pub at-requires-clause-dc : goal.at-requires-clause-dc
at-requires-clause-dc c =
    dc_there (asked c.dcs.ensures.setting c.state.view_is c.self.invariant.reached (omega (arith, c.if-dc-dcs.false, c.dcs.ensures.count)))

pub at-requires-clause-place : goal.at-requires-clause-place
at-requires-clause-place c =
    place_there (asked c.dcs.ensures.setting c.state.view_is c.self.invariant.reached (omega (arith, c.if-dc-dcs.false, c.dcs.ensures.count))) c.primary.ensures.range

pub returns : goal.returns
returns c =
    let a = asked c.dcs.ensures.setting c.state.view_is c.self.invariant.reached (omega (arith, c.if-dc-dcs.false, c.dcs.ensures.count)) in
    rw (← c.self.view_is)
    (c.has.ensures ∙ settled_there a c.primary.result c.at.result.now (record { key = c.args.key.now; version = c.args.version }) c.primary.ensures.count c.at.ensures)
