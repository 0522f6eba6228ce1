use Rattle.cops_audit.proofs.Consequences.{convergent, exactly}
use Rattle.cops_audit.proofs.judging.judge.Goals as goal

pub returns-clause-convergent : goal.returns-clause-convergent
returns-clause-convergent c = convergent c.args.history.now.sessions c.in_ok-ordered.ordered.verdict c.in_ok-ordered.ensures.verdict

pub returns-clause-exactly : goal.returns-clause-exactly
returns-clause-exactly c = exactly c.args.history.now.sessions c.in_ok-ordered.ordered.verdict c.in_ok-ordered.ensures.verdict
