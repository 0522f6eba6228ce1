use Rattle.cops_audit.proofs.Counting.{CountsTo}
use Rattle.cops_audit.proofs.search.counted.Given as goal

abbrev pub invariant-loop-client : goal.invariant-loop-client
invariant-loop-client l = CountsTo l.search.counts l.counts.items l.client
