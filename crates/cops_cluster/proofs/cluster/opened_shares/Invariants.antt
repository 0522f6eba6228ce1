use Rattle.cops_cluster.specs.Opening.{AreReceivers}
use Rattle.cops_cluster.proofs.cluster.opened_shares.Given as goal

abbrev pub invariant-loop-dc : goal.invariant-loop-dc
invariant-loop-dc l = AreReceivers l.dc l.shares.items
