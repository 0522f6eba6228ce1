use Rattle.std.proofs.Common.{◌≡◌, map, take}
use Rattle.cops_run_command.specs.Running.{all_seen}
use Rattle.cops_run_command.proofs.events.arrivals.Given as goal

abbrev pub invariant-loop-n : goal.invariant-loop-n
invariant-loop-n l = l.clients.items ≡ map (λ r. r.client) (all_seen (take l.n l.events) (take l.n l.outcomes))
