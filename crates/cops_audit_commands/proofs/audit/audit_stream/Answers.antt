use Rattle.cops_audit_commands.specs.Audit.{AuditSays}
use Rattle.cops_audit_commands.proofs.ReportedText.{accepted_encodes, reported_writes, reported_prefix}
use Rattle.cops_audit_commands.proofs.audit.audit_stream.Goals as goal

pub returns-in-Ok-clause-ok : goal.returns-in-Ok-clause-ok
returns-in-Ok-clause-ok g c =
    let gained = c.in-Ok.ensures.ok in
    reported_writes (λ bytes. AuditSays bytes c.in_ok-answer.answer c.in_ok-answer.text.items) AuditSays _ c.in_ok-answer.answer _ _ _ c.in_ok-answer.ensures.says (λ bytes says. says) (rw c.deref.ensures.value at gained)

pub returns-in-Ok-clause-accepted : goal.returns-in-Ok-clause-accepted
returns-in-Ok-clause-accepted g c = accepted_encodes _ c.in_ok-answer.answer c.in_ok-answer.text.items c.in_ok-answer.ensures.says

pub returns-clause-write_failed : goal.returns-clause-write_failed
returns-clause-write_failed g c = λ e.
    reported_prefix (λ bytes. AuditSays bytes c.in_ok-answer.answer c.in_ok-answer.text.items) AuditSays _ c.in_ok-answer.answer _ c.in-Err.field-0 _ _ c.in_ok-answer.ensures.says (λ bytes says. says) (rw c.deref.ensures.value at c.in-Err.ensures.err)
