use Rattle.cops_audit_commands.proofs.AuditedAlike.{converts_alike}
use Rattle.cops_audit_commands.proofs.convert.convert_stream.Goals as goal

pub returns-clause-ok : goal.returns-clause-ok
returns-clause-ok g c = converts_alike c.convert.result _ _ _ c.convert.ensures.ok c.convert.ensures.one
