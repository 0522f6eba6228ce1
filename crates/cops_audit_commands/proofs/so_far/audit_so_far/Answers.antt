use Rattle.cops_trace.specs.Answer.{AgreesInto}
use Rattle.cops_audit_commands.specs.Fed.{WasFed}
use Rattle.cops_audit_commands.specs.SoFar.{SaysSoFar}
use Rattle.cops_audit_commands.proofs.ReportedText.{reported_writes, reported_prefix}
use Rattle.cops_audit_commands.proofs.ReportedSoFar.{accepted_sound}
use Rattle.cops_audit_commands.proofs.so_far.audit_so_far.Goals as goal

pub returns-in-Ok-clause-ok : goal.returns-in-Ok-clause-ok
returns-in-Ok-clause-ok g c =
    let gained = c.in-Ok.ensures.ok in
    reported_writes (λ bytes. AgreesInto WasFed bytes c.read_into.result) SaysSoFar _ c.in_ok-answer.answer _ _ _ c.read_into.ensures.says c.in_ok-answer.ensures.says (rw c.deref.ensures.value at gained)

pub returns-in-Ok-clause-accepted : goal.returns-in-Ok-clause-accepted
returns-in-Ok-clause-accepted g c = accepted_sound _ c.read_into.result c.in_ok-answer.answer c.in_ok-answer.text.items c.read_into.ensures.says c.in_ok-answer.ensures.says

pub returns-clause-write_failed : goal.returns-clause-write_failed
returns-clause-write_failed g c = λ e.
    reported_prefix (λ bytes. AgreesInto WasFed bytes c.read_into.result) SaysSoFar _ c.in_ok-answer.answer _ c.in-Err.field-0 _ _ c.read_into.ensures.says c.in_ok-answer.ensures.says (rw c.deref.ensures.value at c.in-Err.ensures.err)
