use Rattle.cops_check.proofs.Checked.{accepted_lines}
use Rattle.cops_check.proofs.check.check_bytes.Goals as goal

pub returns-in-Ok-clause-accepted : goal.returns-in-Ok-clause-accepted
returns-in-Ok-clause-accepted c = λ is.
    let said = c.in-Ok.field-0 in
    accepted_lines c.args.is_ranked _ c.args.lines.now said.explained.answer said.text.items c.in-Ok.ensures.says is
