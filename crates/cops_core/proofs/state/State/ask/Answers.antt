use Rattle.std.proofs.Common.{rules, ◌≡◌, ◌∙◌, sym, ap, arith}
use Rattle.cops_node.specs.declared.outcome.Outcome.TheVariants.{Yes}
use Rattle.cops_core.specs.World.{gained}
use Rattle.cops_core.specs.contracts.state.State.{the_view}
use Rattle.cops_core.proofs.Events.{asked, dc_there, place_there, answers, keeps_wait, with_answers}
use Rattle.cops_core.proofs.state.State.ask.Goals as goal

pub node-node-requires-clause-dc : goal.node-node-requires-clause-dc
node-node-requires-clause-dc c =
    dc_there (asked c.dcs.ensures.setting c.self.view_is c.requires (omega (arith, c.if-dc-dcs.false, c.dcs.ensures.count)))

pub node-node-requires-clause-place : goal.node-node-requires-clause-place
node-node-requires-clause-place c =
    place_there (asked c.dcs.ensures.setting c.self.view_is c.requires (omega (arith, c.if-dc-dcs.false, c.dcs.ensures.count))) c.primary.ensures.range

pub returns-in-Yes-clause-happens : goal.returns-in-Yes-clause-happens
returns-in-Yes-clause-happens c =
    let a = asked c.dcs.ensures.setting c.self.view_is c.requires (omega (arith, c.if-dc-dcs.false, c.dcs.ensures.count)) in
    let w = the_view c.self.inside in
    let made = with_answers w c.args.dc c.primary.result c.ask.new.self in
    let cloned : c.in-Ok.copy ≡ c.args.key.now = search rules in
    let answered : c.add.new.self.said ≡ gained w.said (record { dc = c.args.dc; pair = record { key = c.args.key.now; version = c.args.version } }) =
    c.add.ensures ∙ (λ i. gained (c.reserve.ensures.same i) (record { dc = c.args.dc; pair = record { key = cloned i; version = c.args.version } })) in
    answers a c.args.key.now c.args.version c.primary.result Yes c.node-node.result.now c.ask.new.self (made c.add.new.self.said) c.primary.ensures.count c.node-node.ensures.value c.in-Yes.ensures.happens
    (ap made answered)

pub returns-in_default-ask-clause-happens : goal.returns-in_default-ask-clause-happens
returns-in_default-ask-clause-happens c =
    let a = asked c.dcs.ensures.setting c.self.view_is c.requires (omega (arith, c.if-dc-dcs.false, c.dcs.ensures.count)) in
    let w = the_view c.self.inside in
    let made = with_answers w c.args.dc c.primary.result c.ask.new.self in
    answers a c.args.key.now c.args.version c.primary.result c.ask.result c.node-node.result.now c.ask.new.self (made c.reserve.new.self.said) c.primary.ensures.count c.node-node.ensures.value c.ask.ensures.happens
    (ap made c.reserve.ensures.same ∙ sym (keeps_wait w c.args.dc c.primary.result c.args.dc c.args.key.now c.args.version c.ask.result c.ask.new.self c.in_default-ask.not-Yes))
