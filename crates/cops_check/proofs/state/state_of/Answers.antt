use Rattle.cops_check.proofs.Checked.{accepted_lines}
use Rattle.cops_check.proofs.state.state_of.Goals as goal

pub returns-in-Accepted : goal.returns-in-Accepted
returns-in-Accepted c =
    let said = c.in-Ok.field-0 in
    accepted_lines c.args.is_ranked _ c.args.lines.now said.explained.answer said.text.items c.in-Ok.ensures.says cc
