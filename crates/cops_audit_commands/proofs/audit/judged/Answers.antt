use Rattle.std.proofs.Common.{Err, ap, ◌∙◌}
use Rattle.cops_audit_commands.proofs.audit.judged.Goals as goal

pub returns-in-Ok-report_on-clause-reported : goal.returns-in-Ok-report_on-clause-reported
returns-in-Ok-report_on-clause-reported g c = λ t was. c.in-Ok-report_on.ensures t (c.into_history-history.ensures ∙ c.into_online.ensures t was)

pub returns-in-Err-BadWorkers-clause-bad : goal.returns-in-Err-BadWorkers-clause-bad
returns-in-Err-BadWorkers-clause-bad g c = λ _. c.in-Err-BadWorkers.ensures.bad.0 (ap Err c.in-Err-BadWorkers.field-0-is)
