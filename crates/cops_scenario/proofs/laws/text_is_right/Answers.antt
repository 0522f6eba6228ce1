use Rattle.cops_scenario.proofs.Right.{has_no_wrong, is_a_text}
use Rattle.cops_scenario.proofs.laws.text_is_right.Goals as goal

pub returns-clause-right : goal.returns-clause-right
returns-clause-right c = has_no_wrong

pub returns-clause-json : goal.returns-clause-json
returns-clause-json c = is_a_text
