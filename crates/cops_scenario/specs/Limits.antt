-- The limits of scenarios.
use Rattle.std.specs.Prelude.{◌≡◌, ℕ, ◌<◌, ◌≤◌, List, [], length, All, Option, None, Some}
use Rattle.cops_types.specs.declared.format.Format.{Format}
use Rattle.cops_types.specs.Format.{Fits}
use Rattle.cops_types.specs.KeyValue.{IsKey}
use Rattle.cops_types.specs.Version.{IsVersion}
use Rattle.cops_place.specs.declared.place.TheConstants.{MAX_SPLITS}
use Rattle.cops_place.specs.Place.{IsPlace, AreAscending}
use Rattle.cops_core.specs.declared.event.Event.{Event}
use Rattle.cops_core.specs.declared.event.Event.TheVariants as event
use Rattle.cops_scenario.specs.declared.script.ScriptOp.{ScriptOp}
use Rattle.cops_scenario.specs.declared.script.ScriptOp.TheVariants as script
use Rattle.cops_scenario.specs.declared.script.ScriptedClient.{ScriptedClient}
use Rattle.cops_scenario.specs.declared.scenario.TheConstants.{MAX_CLIENT, MAX_CLIENTS, MAX_DC, MAX_DEP, MAX_EVENTS, MAX_HOLD, MAX_LINK, MAX_REPEAT, MAX_RETRIES, MAX_SCRIPT, MAX_TURNS}
use Rattle.cops_scenario.specs.Scenario.{AScenario}

-- the client's data centre exists, and the client has at most 10,000 operations
abbrev pub IsClientOf : ℕ → ScriptedClient → Type 0
IsClientOf dcs c = (c.at < dcs) × (length c.script.items ≤ MAX_SCRIPT)

-- if there is a list of events, it has at most 100,000, and no client has a script
abbrev pub AreEventsOf : List ScriptedClient → Option (List Event) → Type 0
AreEventsOf clients None = Unit {0}
AreEventsOf clients (Some events) = (length events ≤ MAX_EVENTS) × All (λ c. c.script.items ≡ []) clients

-- the scenario is within its limits
pub record IsScenario (s : AScenario) : Type 0 where
  pub is_place : IsPlace s.place
  pub link_in_range : (1 ≤ s.link) × (s.link ≤ MAX_LINK)
  pub turns_in_range : (1 ≤ s.turns) × (s.turns ≤ MAX_TURNS)
  pub retries_in_range : s.retries ≤ MAX_RETRIES
  pub repeat_in_range : s.repeat ≤ MAX_REPEAT
  pub hold_in_range : s.hold ≤ MAX_HOLD
  pub few_clients : length s.clients ≤ MAX_CLIENTS
  pub each_client : All (IsClientOf s.place.dcs) s.clients
  pub few_events : AreEventsOf s.clients s.events

-- at most 63 split keys, each a key, and each greater than the one before it
abbrev pub AreSplits : List (List ℕ) → Type 0
AreSplits splits = (length splits ≤ MAX_SPLITS) × AreAscending splits × All IsKey splits

-- an operation of a script is of the format, and its key and value are within their ranges
abbrev pub IsLegalOp : Format → ScriptOp → Type 0
IsLegalOp format (script.Put key value) = IsKey key × Fits format (Some value)
IsLegalOp format (script.Del key) = IsKey key × Fits format None
IsLegalOp format (script.Get key) = IsKey key

-- a client is within its limits, and each operation of its script is legal
abbrev pub IsLegalClient : Format → ℕ → ScriptedClient → Type 0
IsLegalClient format dcs c = IsClientOf dcs c × All (IsLegalOp format) c.script.items

-- an event is of the format, and its numbers, key, value and version are within their ranges, whether or not its client and data centre exist
abbrev pub IsLegalEvent : Format → Event → Type 0
IsLegalEvent format (event.Put client key value) = (client ≤ MAX_CLIENT) × IsKey key × Fits format (Some value)
IsLegalEvent format (event.Del client key) = (client ≤ MAX_CLIENT) × IsKey key × Fits format None
IsLegalEvent format (event.Get client key) = (client ≤ MAX_CLIENT) × IsKey key
IsLegalEvent format (event.Deliver dc version) = (dc ≤ MAX_DC) × IsVersion version
IsLegalEvent format (event.Ask dc key version) = (dc ≤ MAX_DC) × IsKey key × IsVersion version
IsLegalEvent format (event.Mark dc version dep) = (dc ≤ MAX_DC) × IsVersion version × (dep ≤ MAX_DEP)
IsLegalEvent format (event.Settle dc version) = (dc ≤ MAX_DC) × IsVersion version

-- at most 100,000 legal events
abbrev pub AreLegalEvents : Format → Option (List Event) → Type 0
AreLegalEvents format None = Unit {0}
AreLegalEvents format (Some events) = (length events ≤ MAX_EVENTS) × All (IsLegalEvent format) events

-- a scenario is within its limits, its split keys are keys, and its scripts and events are legal
pub record IsLegalScenario (s : AScenario) : Type 0 where
  pub is_scenario : IsScenario s
  pub splits : AreSplits s.place.splits
  pub clients : All (IsLegalClient s.format s.place.dcs) s.clients
  pub events : AreLegalEvents s.format s.events
