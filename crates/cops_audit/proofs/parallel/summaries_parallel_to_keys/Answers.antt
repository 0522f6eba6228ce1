use Rattle.std.proofs.Common.{IfOk, subst}
use Rattle.cops_audit.specs.KeyIndexes.{IsKeyIndex}
use Rattle.cops_audit.specs.Summaries.{IsSummarized}
use Rattle.cops_audit.proofs.parallel.summaries_parallel_to_keys.Goals as goal

pub returns-clause-summaries : goal.returns-clause-summaries
returns-clause-summaries g c = subst (λ r. IfOk r (IsSummarized c.args.index.now.history.now.sessions c.args.index.now.table.now)) c.in_ok-summaries.was c.join-summaries.ensures.first

pub returns-clause-keys : goal.returns-clause-keys
returns-clause-keys g c = subst (λ r. IfOk r (IsKeyIndex c.args.index.now.history.now c.args.index.now.table.now)) c.in_ok-keys.was c.join-summaries.ensures.second
