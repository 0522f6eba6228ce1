use Rattle.std.proofs.Common.{◌≡◌, ◌∙◌, arith, map, rules, sym}
use Rattle.std.proofs.lemmas.Grind.{common_steps}
use Rattle.serde_json.specs.View.{view}
use Rattle.cops_scenario.specs.declared.script.ScriptOp.{ScriptOp}
use Rattle.cops_scenario.specs.File.{op_json}
use Rattle.cops_scenario.specs.Limits.{IsLegalOp}
use Rattle.cops_scenario.proofs.Forms.{no_such_item, same_list}
use Rattle.cops_scenario.proofs.event.script.Goals as goal

pub loop-item-preserved : goal.loop-item-preserved
loop-item-preserved c = (grind (arith, common_steps), c.loop-item.invariant.1, grind (arith, common_steps), grind (arith, common_steps))

pub returns-in_err-script_op-clause-none : goal.returns-in_err-script_op-clause-none
returns-in_err-script_op-clause-none c = λ err reported few each e.
    let items = c.in_ok-item-items.item-items.now in
    let none : (x : ScriptOp) → IsLegalOp c.args.format x → view c.item-item.result ≡ op_json x → ⊥ = search rules in
    no_such_item op_json (IsLegalOp c.args.format) items c.loop-item.item-index c.item-item.result reported c.loop-item-test.true c.item-item.is none
    (same_list (map view items) (map op_json reported) (sym c.in_ok-item-items.ensures.json ∙ e)) each
