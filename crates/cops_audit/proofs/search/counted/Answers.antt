use Rattle.std.proofs.Common.{arith}
use Rattle.cops_audit.proofs.Counting.{all_counts, count_pushed, count_skipped}
use Rattle.cops_audit.proofs.search.counted.Goals as goal
use Rattle.cops_audit.proofs.search.counted.Goals.{then-count-gt0+in_ok-push, else-count-gt0}

pub loop-client-preserved : goal.loop-client-preserved
loop-client-preserved c =
    elim c.if-count-gt0.branch [
      | then-count-gt0+in_ok-push w ↦ rw (w.counts-is, w.in_ok-push.ensures.items)
          (count_pushed c.args.search.now.counts c.loop-client.counts.items c.loop-client.client c.get-count.result c.loop-client.invariant c.get-count.ensures w.if-count-gt0.true)
      | else-count-gt0 w ↦ rw w.counts-is
          (count_skipped c.args.search.now.counts c.loop-client.counts.items c.loop-client.client c.loop-client.invariant (omega (arith, c.get-count.ensures, w.if-count-gt0.false)))
    ]

pub returns : goal.returns
returns c = all_counts c.args.search.now.counts c.loop-client.counts.items c.loop-client.client (omega (arith, c.requires.clients)) c.loop-client.invariant
