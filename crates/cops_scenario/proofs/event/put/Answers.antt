use Rattle.std.proofs.Common.{ℕ, List, ap, arith, rules}
use Rattle.std.specs.Prelude.{◌≢◌, Some}
use Rattle.serde_json.specs.View.{view}
use Rattle.cops_types.specs.Format.{Fits}
use Rattle.cops_json.specs.Json.{text_json}
use Rattle.cops_scenario.proofs.Forms.{part_at}
use Rattle.cops_scenario.proofs.event.put.Goals as goal

pub returns-in_err-client-in-len3-clause-none : goal.returns-in_err-client-in-len3-clause-none
returns-in_err-client-in-len3-clause-none c = λ err client key value small is_key is_value e. c.in_err-client-in-len3.ensures.none client (omega arith) small (ap Some (part_at c.args.parts.now 0 c.c-item.result _ (omega arith) c.c-item.is e))

pub returns-in_err-value-in-len3-clause-none : goal.returns-in_err-value-in-len3-clause-none
returns-in_err-value-in-len3-clause-none c = λ err client key value small is_key is_value e.
    let none : (bytes : List ℕ) → Fits c.args.format (Some bytes) → view c.v-item.result ≢ text_json bytes = search rules in
    none value is_value (part_at c.args.parts.now 2 c.v-item.result _ (omega arith) c.v-item.is e)
