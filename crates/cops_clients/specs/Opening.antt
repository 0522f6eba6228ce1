-- What a run starts with.
use Rattle.std.specs.Prelude.{◌≡◌, List, slice_index_or}
use Rattle.cops_scenario.specs.declared.script.ScriptedClient.{ScriptedClient}
use Rattle.cops_clients.specs.declared.clients.ClientTask.{ClientTask}

-- the task's script is that of the scripted client at its client's number
abbrev pub HasItsScript : List ScriptedClient → ClientTask → Type 0
HasItsScript scripted j = (c : ScriptedClient) × (c ≡ slice_index_or scripted j.client.number c) × (j.script.now ≡ c.script.items)
