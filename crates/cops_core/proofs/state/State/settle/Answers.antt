use Rattle.std.proofs.Common.{refl, arith}
use Rattle.cops_core.proofs.Events.{asked, dc_there, place_there, settles, settles_nowhere}
use Rattle.cops_core.proofs.state.State.settle.Goals as goal

pub returns-then-place-nodes-clause-happens : goal.returns-then-place-nodes-clause-happens
returns-then-place-nodes-clause-happens c =
    settles_nowhere (asked c.dcs.ensures.setting refl c.requires (omega (arith, c.if-dc-dcs.false, c.dcs.ensures.count)))
    c.args.version c.place-place.result c.place-place.ensures.value (omega (arith, c.if-place-nodes.true, c.nodes.ensures.count))

pub node-node-requires-clause-dc : goal.node-node-requires-clause-dc
node-node-requires-clause-dc c =
    dc_there (asked c.dcs.ensures.setting c.self.view_is c.requires (omega (arith, c.if-dc-dcs.false, c.dcs.ensures.count)))

pub node-node-requires-clause-place : goal.node-node-requires-clause-place
node-node-requires-clause-place c =
    place_there (asked c.dcs.ensures.setting c.self.view_is c.requires (omega (arith, c.if-dc-dcs.false, c.dcs.ensures.count))) (omega (arith, c.if-place-nodes.false, c.nodes.ensures.count))

pub returns-clause-happens : goal.returns-clause-happens
returns-clause-happens c =
    settles (asked c.dcs.ensures.setting c.self.view_is c.requires (omega (arith, c.if-dc-dcs.false, c.dcs.ensures.count)))
    c.args.version c.place-place.result c.settle.result c.node-node.result.now c.settle.new.self c.place-place.ensures.value c.node-node.ensures.value c.settle.ensures.happens
