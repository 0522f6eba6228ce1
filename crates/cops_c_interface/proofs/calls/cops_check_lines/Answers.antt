use Rattle.cops_check.specs.Check.{CheckSaysJson}
use Rattle.cops_c_interface.proofs.Saying.{accepts, leaves}
use Rattle.cops_c_interface.proofs.calls.cops_check_lines.Goals as goal

pub returns-clause-left : goal.returns-clause-left
returns-clause-left c = leaves (CheckSaysJson c.args.is_ranked c.args.input.now) c.check_bytes.result _ _ _ _ c.check_bytes.ensures.says c.leave.ensures

pub returns-clause-accepted : goal.returns-clause-accepted
returns-clause-accepted c = accepts _ c.check_bytes.result _ _ _ _ c.check_bytes.ensures.accepted c.leave.ensures
