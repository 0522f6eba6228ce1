use Rattle.std.proofs.Common.{◌≡◌, ◌∙◌, arith, map, rules, sym}
use Rattle.std.proofs.lemmas.Grind.{common_steps}
use Rattle.serde_json.specs.View.{view}
use Rattle.cops_core.specs.declared.event.Event.{Event}
use Rattle.cops_scenario.specs.File.{event_json}
use Rattle.cops_scenario.specs.Limits.{IsLegalEvent}
use Rattle.cops_scenario.proofs.Forms.{no_such_item, same_list}
use Rattle.cops_scenario.proofs.event.events.Goals as goal

pub loop-item-preserved : goal.loop-item-preserved
loop-item-preserved c = (grind (arith, common_steps), c.loop-item.invariant.1, grind (arith, common_steps), grind (arith, common_steps))

pub returns-in_err-event-clause-none : goal.returns-in_err-event-clause-none
returns-in_err-event-clause-none c = λ err reported few each e.
    let items = c.in_ok-item-items.item-items.now in
    let none : (x : Event) → IsLegalEvent c.args.format x → view c.item-item.result ≡ event_json x → ⊥ = search rules in
    no_such_item event_json (IsLegalEvent c.args.format) items c.loop-item.item-index c.item-item.result reported c.loop-item-test.true c.item-item.is none
    (same_list (map view items) (map event_json reported) (sym c.in_ok-item-items.ensures.json ∙ e)) each
