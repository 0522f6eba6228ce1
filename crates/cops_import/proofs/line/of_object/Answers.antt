use Rattle.std.proofs.Common.{◌≡◌, Err, ap, subst}
use Rattle.serde_json.specs.View.{view}
use Rattle.cops_import.specs.declared.fault.JsonLineFault.TheVariants.{NoClient}
use Rattle.cops_import.specs.declared.not_given.NotGiven.TheVariants.{Fault}
use Rattle.cops_import.specs.declared.rules.Rules.{Rules}
use Rattle.cops_import.specs.Line.{IsWrong}
use Rattle.cops_import.proofs.Asked.{wrong_of, wrong_unread}
use Rattle.cops_import.proofs.line.of_object.Goals as goal

pub returns-in-Err-clause-wrong : goal.returns-in-Err-clause-wrong
returns-in-Err-clause-wrong c = λ fault e.
    let rules : Rules = record { format = c.args.format; versions = c.args.versions.now } in
    let same : c.of.result ≡ Fault fault = cc in
    wrong_unread (IsWrong rules (view c.args.object.now)) NoClient fault c.in-Err.unread c.of.result c.of.ensures.memory c.of.ensures.form
    (λ form. c.in-Err.ensures.none (ap Err form)) same

pub returns-in-Err-asked-clause-wrong : goal.returns-in-Err-asked-clause-wrong
returns-in-Err-asked-clause-wrong c = λ fault e.
    let rules : Rules = record { format = c.args.format; versions = c.args.versions.now } in
    let same : c.in-Err-asked.fault ≡ fault = cc in
    subst (IsWrong rules (view c.args.object.now)) same (c.in-Err-asked.ensures.wrong rules (c.in-Ok.name, c.in-Ok.ensures.reported))

pub returns-in-Err-action_of-clause-wrong : goal.returns-in-Err-action_of-clause-wrong
returns-in-Err-action_of-clause-wrong c = λ fault e.
    let rules : Rules = record { format = c.args.format; versions = c.args.versions.now } in
    let same : c.in-Err-action_of.not_given ≡ Fault fault = cc in
    let asked = c.in-Ok-asked.asked in
    wrong_of rules (view c.args.object.now) asked.0 (view asked.1.now) fault (c.in-Ok.name, c.in-Ok.ensures.reported) c.in-Ok-asked.ensures.one (c.in-Err-action_of.ensures.wrong fault (ap Err same))
