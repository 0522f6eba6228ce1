use Rattle.cops_audit_commands.specs.Audit.{AuditSays}
use Rattle.cops_c_interface.proofs.Saying.{accepts, leaves}
use Rattle.cops_c_interface.proofs.calls.cops_audit.Goals as goal

pub returns-clause-left : goal.returns-clause-left
returns-clause-left c = leaves (AuditSays c.args.input.now) c.audit_bytes.result _ _ _ _ c.audit_bytes.ensures.says c.leave.ensures

pub returns-clause-accepted : goal.returns-clause-accepted
returns-clause-accepted c = accepts _ c.audit_bytes.result _ _ _ _ c.audit_bytes.ensures.accepted c.leave.ensures
