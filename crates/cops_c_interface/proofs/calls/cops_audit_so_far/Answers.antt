use Rattle.cops_audit_commands.specs.SoFar.{SaysSoFar}
use Rattle.cops_c_interface.proofs.Saying.{accepts, leaves}
use Rattle.cops_c_interface.proofs.calls.cops_audit_so_far.Goals as goal

pub returns-clause-left : goal.returns-clause-left
returns-clause-left c = leaves (SaysSoFar c.args.input.now) c.audit_bytes_so_far.result _ _ _ _ c.audit_bytes_so_far.ensures.says c.leave.ensures

pub returns-clause-accepted : goal.returns-clause-accepted
returns-clause-accepted c = accepts _ c.audit_bytes_so_far.result _ _ _ _ c.audit_bytes_so_far.ensures.accepted c.leave.ensures
