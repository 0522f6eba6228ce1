use Rattle.cops_cluster.specs.Cluster.{IsSameClient}
use Rattle.cops_clients.proofs.clients.follow.Given as goal

abbrev pub invariant-loop-op : goal.invariant-loop-op
invariant-loop-op g l = IsSameClient l.initial.client l.client
