use Rattle.serde_json.specs.View.{view}
use Rattle.cops_import.proofs.Asked.{wrong_in}
use Rattle.cops_import.proofs.line.of_text.Goals as goal

pub returns-in-Ok-clause-wrong : goal.returns-in-Ok-clause-wrong
returns-in-Ok-clause-wrong c = λ fault e. wrong_in (record { format = c.args.format; versions = c.args.versions.now }) c.args.line.now (view c.in-Ok.object) fault c.in-Ok.ensures.ok (c.of_object.ensures.wrong fault e)
