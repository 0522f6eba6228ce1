-- When something is not a run of scripted clients.
use Rattle.std.specs.Prelude.{ℕ, ◌⊎◌, List}
use Rattle.cops_types.specs.Histories.{Sessions}
use Rattle.cops_core.specs.declared.event.Event.{Event}
use Rattle.cops_scenario.specs.declared.script.ScriptedClient.{ScriptedClient}
use Rattle.cops_core.specs.World.{Setting, World}
use Rattle.cops_node.specs.declared.entry.Entry.{Entry}
use Rattle.cops_tie.specs.Untied.{IsTiedBefore, IsUntied}
use Rattle.cops_tie.specs.declared.outcome.ClientOutcome.{ClientOutcome}
use Rattle.cops_tie.specs.Runs.{EndsWell}

-- the books are one run of the world, which does not end well; the ticket is one more than the greatest
pub record FailsAtEnd (s : Setting) (clients : List ScriptedClient) (books : List (List Entry)) (sessions : Sessions) (outcomes : List ClientOutcome) (ticket : ℕ) : Type 0 where
  pub events : List Event
  pub end : World
  pub tied : IsTiedBefore s books sessions events end ticket
  pub fails : EndsWell s clients end sessions outcomes → ⊥

-- not a run: the books are not tied, with the ticket of that, or the run does not end well
abbrev pub IsNoRun : Setting → List ScriptedClient → List (List Entry) → Sessions → List ClientOutcome → ℕ → Type 0
IsNoRun s clients books sessions outcomes ticket = IsUntied s books sessions ticket ⊎ FailsAtEnd s clients books sessions outcomes ticket
