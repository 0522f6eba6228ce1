use Rattle.std.proofs.Common.{◌≡◌, All, map}
use Rattle.cops_clients.specs.Opening.{HasItsScript}
use Rattle.cops_clients.specs.declared.clients.ClientTask.{ClientTask}
use Rattle.cops_clients.proofs.opening.tasks.Given as goal

abbrev pub invariant-loop-client : goal.invariant-loop-client
invariant-loop-client l = record {
  clients : map (λ (j : ClientTask). j.client) l.tasks.items ≡ l.yielded;
  scripts : All (HasItsScript l.scripted) l.tasks.items;
}
