use Rattle.cops_audit_commands.proofs.ReportedSoFar.{whole_said}
use Rattle.cops_audit_commands.proofs.audit.reported.Goals as goal

pub returns-in-Ok-clause-says : goal.returns-in-Ok-clause-says
returns-in-Ok-clause-says g c = λ bytes agrees. whole_said bytes c.in-Ok.fed c.judged_alone.result (c.in-Ok.ensures.whole bytes agrees) c.judged_alone.ensures.reported

pub returns-in-Ok-2-clause-says : goal.returns-in-Ok-2-clause-says
returns-in-Ok-2-clause-says g c = λ bytes agrees. whole_said bytes c.in-Ok.fed c.judged.result (c.in-Ok.ensures.whole bytes agrees) c.judged.ensures.reported
