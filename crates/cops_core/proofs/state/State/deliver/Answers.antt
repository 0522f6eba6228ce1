use Rattle.std.proofs.Common.{◌∙◌, sym, ap, arith, option_copied}
use Rattle.cops_core.proofs.Events.{asked, dc_there, place_there, comes}
use Rattle.cops_core.proofs.state.State.deliver.Goals as goal

pub node-node-requires-clause-dc : goal.node-node-requires-clause-dc
node-node-requires-clause-dc c =
    dc_there (asked c.dcs.ensures.setting c.self.view_is c.requires (omega (arith, c.if-dc-dcs.false, c.dcs.ensures.count)))

pub node-node-requires-clause-place : goal.node-node-requires-clause-place
node-node-requires-clause-place c =
    place_there (asked c.dcs.ensures.setting c.self.view_is c.requires (omega (arith, c.if-dc-dcs.false, c.dcs.ensures.count))) c.primary-place.ensures.range

pub returns-clause-happens : goal.returns-clause-happens
returns-clause-happens c =
    let a = asked c.dcs.ensures.setting c.self.view_is c.requires (omega (arith, c.if-dc-dcs.false, c.dcs.ensures.count)) in
    comes a c.args.version c.primary-place.result c.deliver.result c.in-Some.put.now c.node-node.result.now c.deliver.new.self (sym (ap option_copied c.in-Some.is) ∙ c.find.ensures) c.primary-place.ensures.count c.node-node.ensures.value
    (rw (sym c.in-Ok.ensures.cases) c.deliver.ensures.happens)
