use Rattle.std.proofs.Common.{◌≡◌, ◌∙◌, refl, sym, ap, arith}
use Rattle.cops_core.specs.World.{is_answered}
use Rattle.cops_held.specs.Held.{waiting}
use Rattle.cops_node.specs.Node.{Node, dep_at}
use Rattle.cops_core.specs.contracts.state.State.{the_view}
use Rattle.cops_core.proofs.Events.{asked, dc_there, place_there, marks, marks_unanswered, marks_nowhere}
use Rattle.cops_core.proofs.state.State.mark.Goals as goal

pub returns-then-place-nodes-clause-happens : goal.returns-then-place-nodes-clause-happens
returns-then-place-nodes-clause-happens c =
    marks_nowhere (asked c.dcs.ensures.setting refl c.requires (omega (arith, c.if-dc-dcs.false, c.dcs.ensures.count)))
    c.args.version c.args.dep c.place-place.result c.place-place.ensures.value (omega (arith, c.if-place-nodes.true, c.nodes.ensures.count))

pub at-requires-clause-dc : goal.at-requires-clause-dc
at-requires-clause-dc c =
    dc_there (asked c.dcs.ensures.setting c.self.view_is c.requires (omega (arith, c.if-dc-dcs.false, c.dcs.ensures.count)))

pub at-requires-clause-place : goal.at-requires-clause-place
at-requires-clause-place c =
    place_there (asked c.dcs.ensures.setting c.self.view_is c.requires (omega (arith, c.if-dc-dcs.false, c.dcs.ensures.count))) (omega (arith, c.if-place-nodes.false, c.nodes.ensures.count))

pub returns-then-not-answered-clause-happens : goal.returns-then-not-answered-clause-happens
returns-then-not-answered-clause-happens c =
    let a = asked c.dcs.ensures.setting c.self.view_is c.requires (omega (arith, c.if-dc-dcs.false, c.dcs.ensures.count)) in
    let none = ap (is_answered (the_view c.self.inside).said c.args.dc) (sym c.dep_of-pair.ensures) ∙ sym c.in-Ok.ensures.ok ∙ c.if-not-answered.true in
    marks_unanswered a c.args.version c.args.dep c.place-place.result c.at.result.now c.place-place.ensures.value c.at.ensures none

pub returns-clause-happens : goal.returns-clause-happens
returns-clause-happens c =
    let w = the_view c.self.inside in
    let there = c.node-node.ensures.value in
    let same : c.at.result.now ≡ c.node-node.result.now = (let e = sym c.at.ensures ∙ there in cc) in
    let yes = ap (λ (n : Node). is_answered w.said c.args.dc (dep_at (waiting n.held c.args.version) c.args.dep)) (sym same) ∙ ap (is_answered w.said c.args.dc) (sym c.dep_of-pair.ensures) ∙ sym c.in-Ok.ensures.ok ∙ c.if-not-answered.false in
    let a = asked c.dcs.ensures.setting c.self.view_is c.requires (omega (arith, c.if-dc-dcs.false, c.dcs.ensures.count)) in
    marks a c.args.version c.args.dep c.place-place.result c.mark.result c.node-node.result.now c.mark.new.self c.place-place.ensures.value there yes c.mark.ensures.happens
