use Rattle.cops_trace.specs.Answer.{AgreesInto}
use Rattle.cops_audit_commands.specs.Audit.{AuditSays}
use Rattle.cops_audit_commands.specs.Fed.{WasFed}
use Rattle.cops_audit_commands.proofs.ReportedText.{reported_of_bytes}
use Rattle.cops_audit_commands.proofs.audit.read_and_reported.Goals as goal

pub returns-clause-says : goal.returns-clause-says
returns-clause-says g c = reported_of_bytes (λ bytes. AgreesInto WasFed bytes c.read_into.result) (λ bytes reported. AuditSays bytes reported.0 reported.1.items) _ c.reported.result c.read_into.ensures.says c.reported.ensures.says
