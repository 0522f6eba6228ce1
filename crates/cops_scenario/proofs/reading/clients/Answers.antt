use Rattle.std.proofs.Common.{◌∙◌, List, map, arith, rules, subst, sym}
use Rattle.std.proofs.lemmas.Grind.{common_steps}
use Rattle.serde_json.specs.Data.{Data}
use Rattle.serde_json.specs.View.{view}
use Rattle.cops_scenario.specs.declared.script.ScriptedClient.{ScriptedClient}
use Rattle.cops_scenario.specs.File.{GivesClient, GiveClients}
use Rattle.cops_scenario.specs.Limits.{IsLegalClient}
use Rattle.cops_scenario.proofs.Clients.{report_next}
use Rattle.cops_scenario.proofs.Forms.{as_many, no_such_client, same_list}
use Rattle.cops_scenario.proofs.reading.clients.Goals as goal

pub loop-item-preserved : goal.loop-item-preserved
loop-item-preserved c =
    let before = c.loop-item.invariant in
    let pushed = c.in_ok-push.ensures.items in
    let reported = report_next _ _ _ c.item-item.result _ before.3 c.loop-item-test.true c.item-item.is c.in_ok-client.ensures.reported in
    (grind (arith, common_steps), before.1, grind (arith, common_steps), rw (sym pushed) at reported, grind (arith, common_steps))

pub returns-in_err-item-items-clause-none : goal.returns-in_err-item-items-clause-none
returns-in_err-item-items-clause-none c = λ err ds cs listed reported few each. c.in_err-item-items.ensures.none ds (omega (arith, as_many ds cs reported)) listed

pub returns-in_err-client-clause-none : goal.returns-in_err-client-clause-none
returns-in_err-client-clause-none c = λ err ds cs listed reported few each.
    let items = c.in_ok-item-items.item-items.now in
    let none : (x : ScriptedClient) → IsLegalClient c.args.format c.args.dcs x → GivesClient (view c.item-item.result) x → ⊥ = search rules in
    let same = same_list ds (map view items) (sym listed ∙ c.in_ok-item-items.ensures.json) in
    no_such_client (IsLegalClient c.args.format c.args.dcs) items c.loop-item.item-index c.item-item.result cs c.loop-item-test.true c.item-item.is none
    (subst (λ (l : List Data). GiveClients l cs) same reported) each
