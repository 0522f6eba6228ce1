use Rattle.std.proofs.Common.{◌∙◌, ℕ, List, [], ◌∷◌, map, lit≤, rules, sym}
use Rattle.std.specs.Prelude.{◌≢◌, Some}
use Rattle.serde_json.specs.View.{view}
use Rattle.cops_types.specs.KeyValue.{IsKey}
use Rattle.cops_types.specs.Format.{Fits}
use Rattle.cops_json.specs.Json.{text_json}
use Rattle.cops_scenario.proofs.Events.{no_pair}
use Rattle.cops_scenario.proofs.Forms.{same_list}
use Rattle.cops_scenario.proofs.event.script_op.Goals as goal

pub returns-in_err-list-in-put-clause-none : goal.returns-in_err-list-in-put-clause-none
returns-in_err-list-in-put-clause-none c = λ err op legal e.
    no_pair c.args.format c.in_ok-name.name.now (view c.in_ok-name.of.now) c.in-put.is (λ k v key value x. c.in_err-list-in-put.ensures.none (text_json k ∷ text_json v ∷ []) (lit≤ tt) x) op legal
    (sym c.in_ok-name.ensures.json ∙ e)

pub returns-in_err-key-in-put-clause-none : goal.returns-in_err-key-in-put-clause-none
returns-in_err-key-in-put-clause-none c = λ err op legal e.
    let parts = map view c.in_ok-list-in-put.field-0.now in
    let none : (k v : List ℕ) → IsKey k → Fits c.args.format (Some v) → map view c.in_ok-list-in-put.field-0.now ≢ text_json k ∷ text_json v ∷ [] = search rules in
    no_pair c.args.format c.in_ok-name.name.now (view c.in_ok-name.of.now) c.in-put.is
    (λ k v key value x. none k v key value (same_list parts (text_json k ∷ text_json v ∷ []) (sym c.in_ok-list-in-put.ensures.json ∙ x))) op legal (sym c.in_ok-name.ensures.json ∙ e)
