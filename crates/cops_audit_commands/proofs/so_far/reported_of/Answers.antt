use Rattle.cops_audit_commands.proofs.ReportedSoFar.{reported_cut, reported_whole}
use Rattle.cops_audit_commands.proofs.so_far.reported_of.Goals as goal

pub returns-in-Some : goal.returns-in-Some
returns-in-Some c = λ bytes takes. reported_cut bytes c.args.taken c.in-Some.offset c.cut.result takes c.in-Some.is (c.cut.ensures takes.trace takes.took_it)

pub returns-in-None : goal.returns-in-None
returns-in-None c = λ bytes takes. reported_whole bytes c.args.taken c.whole.result takes c.in-None.is (c.whole.ensures takes.trace takes.took_it)
