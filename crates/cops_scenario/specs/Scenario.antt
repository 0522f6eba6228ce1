-- The model of a scenario.
use Rattle.std.specs.Prelude.{ℕ, List, map, Option}
use Rattle.cops_types.specs.declared.format.Format.{Format}
use Rattle.cops_place.specs.Place.{APlace}
use Rattle.cops_core.specs.declared.event.Event.{Event}
use Rattle.cops_scenario.specs.declared.script.ScriptedClient.{ScriptedClient}
use Rattle.cops_core.specs.World.{Setting}

-- the format of the cluster and of its trace, the place, the capacity of a link, the number of turns that a loop may make, how often an operation is
-- tried again, how often each record is sent again, the number of late turns of a receiver, the clients, and the events if there is a list of them
pub record AScenario : Type 0 where
  pub format : Format
  pub place : APlace
  pub link : ℕ
  pub turns : ℕ
  pub retries : ℕ
  pub repeat : ℕ
  pub hold : ℕ
  pub clients : List ScriptedClient
  pub events : Option (List Event)

-- the data centre of each client
abbrev pub homes_of : AScenario → List ℕ
homes_of s = map (λ c. c.at) s.clients

abbrev pub setting_of : AScenario → Setting
setting_of s = record { format = s.format; place = s.place; homes = homes_of s }
