-- What a run of scripted clients is.
use Rattle.std.specs.Prelude.{◌≡◌, ℕ, ◌<◌, List, All, true}
use Rattle.cops_types.specs.Histories.{Sessions}
use Rattle.cops_types.specs.declared.put_record.PutRecord.{PutRecord}
use Rattle.cops_store.specs.Store.{has_pair}
use Rattle.cops_node.specs.Node.{put_pair}
use Rattle.cops_core.specs.declared.event.Event.{Event}
use Rattle.cops_core.specs.World.{Setting, World, settled_in}
use Rattle.cops_scenario.specs.declared.script.ScriptedClient.{ScriptedClient}
use Rattle.cops_node.specs.declared.entry.Entry.{Entry}
use Rattle.cops_tie.specs.Tie.{IsTiedTo}
use Rattle.cops_tie.specs.declared.outcome.ClientOutcome.{ClientOutcome}
use Rattle.cops_tie.specs.Outcomes.{AreOutcomes}

-- each data centre has settled the put's pair
abbrev pub IsEverywhere : Setting → World → PutRecord → Type 0
IsEverywhere s w put = (dc : ℕ) → dc < s.place.dcs → has_pair (settled_in w dc) (put_pair put) ≡ true

-- each data centre has settled each issued put, so that a get of a key has the same answer in all of them
abbrev pub IsConverged : Setting → World → Type 0
IsConverged s w = All (IsEverywhere s w) w.issued

-- a run that ends in this world ends well: each client's outcome fits its session, and the data centres have converged
abbrev pub EndsWell : Setting → List ScriptedClient → World → Sessions → List ClientOutcome → Type 0
EndsWell s clients w sessions outcomes = AreOutcomes s w clients sessions outcomes × IsConverged s w

-- The books are one run of a world of these clients, with these events, whose clients saw these sessions, and the run ends well.
pub record IsRun (s : Setting) (clients : List ScriptedClient) (books : List (List Entry)) (sessions : Sessions) (events : List Event) (outcomes : List ClientOutcome) : Type 0 where
  pub end : World
  pub tied : IsTiedTo s books sessions events end
  pub ends_well : EndsWell s clients end sessions outcomes
