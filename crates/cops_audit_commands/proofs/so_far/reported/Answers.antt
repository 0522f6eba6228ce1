use Rattle.cops_audit_commands.proofs.ReportedSoFar.{or_fault}
use Rattle.cops_audit_commands.proofs.so_far.reported.Goals as goal

pub returns-in-Ok-clause-says : goal.returns-in-Ok-clause-says
returns-in-Ok-clause-says c = λ bytes agrees. rw c.or.ensures (or_fault c.reported_of.result _ _ (c.reported_of.ensures bytes (rw c.in-Ok.is at agrees)))
