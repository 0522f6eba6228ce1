use Rattle.std.proofs.Common.{◌≡◌, map, take}
use Rattle.cops_scenario.proofs.scenario.Scenario.homes.Given as goal

abbrev pub invariant-loop-client : goal.invariant-loop-client
invariant-loop-client l = l.homes.items ≡ map (λ c. c.at) (take l.client-index l.client-items)
