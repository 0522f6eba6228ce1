use Rattle.std.proofs.Common.{◌≡◌}
use Rattle.cops_cluster.specs.Cluster.{IsSameClient}
use Rattle.cops_clients.proofs.clients.perform.Given as goal

abbrev pub invariant-loop : goal.invariant-loop
invariant-loop g l = record {
  same : IsSameClient l.initial.client l.client;
  made : l.tries.made ≡ l.counter;
  wanting : l.tries.wanting ≡ l.counter;
}
