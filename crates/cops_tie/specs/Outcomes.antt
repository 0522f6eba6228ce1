-- How a scripted client may end.
use Rattle.std.specs.Prelude.{◌≡◌, ℕ, ◌<◌, ◌≤◌, ◌⊎◌, List, [], length, slice_get, slice_index_or, Option, None, Some}
use Rattle.cops_types.specs.declared.refusal.Refusal.{Refusal}
use Rattle.cops_types.specs.declared.refusal.Refusal.TheVariants.{Memory, ClockExhausted, ContextFull}
use Rattle.cops_types.specs.Histories.{Sessions, Operation, write, read, missed}
use Rattle.cops_node.specs.declared.outcome.Outcome.TheVariants.{Refused}
use Rattle.cops_core.specs.declared.event.Event.{Event}
use Rattle.cops_core.specs.declared.event.Event.TheVariants.{Put as PutBy, Del as DelBy, Get as GetBy}
use Rattle.cops_core.specs.World.{Setting, World, act_of, happens}
use Rattle.cops_scenario.specs.declared.script.ScriptOp.{ScriptOp}
use Rattle.cops_scenario.specs.declared.script.ScriptOp.TheVariants.{Put, Del, Get}
use Rattle.cops_scenario.specs.declared.script.ScriptedClient.{ScriptedClient}
use Rattle.cops_tie.specs.declared.outcome.ClientOutcome.{ClientOutcome}
use Rattle.cops_tie.specs.declared.outcome.ClientOutcome.TheVariants.{Done, Stopped}

-- what a client may see for an operation of its script: a put of its key and value, or a deletion of its key, at any version; or a get of its key,
-- with any result
abbrev pub IsSeenAs : ScriptOp → Operation → Type 0
IsSeenAs (Put key value) (write k content version) = (k ≡ key) × (content ≡ Some value)
IsSeenAs (Del key) (write k content version) = (k ≡ key) × (content ≡ None)
IsSeenAs (Get key) (read k content version) = k ≡ key
IsSeenAs (Get key) (missed k) = k ≡ key
IsSeenAs _ _ = ⊥

-- the session matches a prefix of the script: its nth operation is one that a client may have seen for the nth of the script
pub record IsPrefixOf (script : List ScriptOp) (session : List Operation) : Type 0 where
  pub few : length session ≤ length script
  pub each : (n : ℕ) (d : ScriptOp) (e : Operation) → n < length session → IsSeenAs (slice_index_or script n d) (slice_index_or session n e)

-- the world's event for a client's operation
abbrev pub event_for : ℕ → ScriptOp → Event
event_for client (Put key value) = PutBy client key value
event_for client (Del key) = DelBy client key
event_for client (Get key) = GetBy client key

-- there is a next operation, and the world refuses it for this reason
abbrev pub RefusesNext : Setting → World → ℕ → Option ScriptOp → Refusal → Type 0
RefusesNext s w client None refused = ⊥
RefusesNext s w client (Some op) refused = (happens s w (act_of (event_for client op))).0 ≡ Refused refused

-- a client may have stopped for this reason before its next operation: memory ran out, or the world refuses that operation so
abbrev pub IsStop : Setting → World → ℕ → Option ScriptOp → Refusal → Type 0
IsStop s w client next refused = (refused ≡ Memory) ⊎ (((refused ≡ ClockExhausted) ⊎ (refused ≡ ContextFull)) × RefusesNext s w client next refused)

-- a client that is done has seen its whole script, and one that stopped has seen a prefix of it
abbrev pub IsOutcome : Setting → World → ℕ → List ScriptOp → List Operation → ClientOutcome → Type 0
IsOutcome s w client script session Done = IsPrefixOf script session × (length session ≡ length script)
IsOutcome s w client script session (Stopped refused) = IsPrefixOf script session × IsStop s w client (slice_get script (length session)) refused

-- there are a session and an outcome for each client, and each outcome fits its session
pub record AreOutcomes (s : Setting) (w : World) (clients : List ScriptedClient) (sessions : Sessions) (outcomes : List ClientOutcome) : Type 0 where
  pub count : length outcomes ≡ length clients
  pub as_many : length sessions ≡ length clients
  pub each : (client : ℕ) (c : ScriptedClient) (o : ClientOutcome) → client < length clients
      → IsOutcome s w client (slice_index_or clients client c).script.items (slice_index_or sessions client []) (slice_index_or outcomes client o)
