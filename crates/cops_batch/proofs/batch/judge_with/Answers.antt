use Rattle.cops_batch.proofs.batch.judge_with.Goals as goal

pub returns-clause-exactly : goal.returns-clause-exactly
returns-clause-exactly g c = c.verdict_on_convergence.ensures.exactly c.args.history.now.sessions c.in_ok-ordered.ordered.verdict c.in_ok-ordered.ensures.ok.verdict
