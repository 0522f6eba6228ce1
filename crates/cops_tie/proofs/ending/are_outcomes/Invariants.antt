use Rattle.std.proofs.Common.{◌≡◌, ℕ, ◌<◌, [], slice_index_or}
use Rattle.cops_scenario.specs.declared.script.ScriptedClient.{ScriptedClient}
use Rattle.cops_tie.specs.declared.outcome.ClientOutcome.{ClientOutcome}
use Rattle.cops_tie.specs.Outcomes.{IsOutcome}
use Rattle.cops_tie.proofs.ending.are_outcomes.Given as goal

abbrev pub invariant-loop-i : goal.invariant-loop-i
invariant-loop-i l = record {
  same : l.world ≡ l.fn.world;
  each : (k : ℕ) (c : ScriptedClient) (o : ClientOutcome) → k < l.i
      → IsOutcome l.fn.world.setting l.fn.world.world k (slice_index_or l.clients k c).script.items (slice_index_or l.history.sessions k []) (slice_index_or l.outcomes k o);
}
