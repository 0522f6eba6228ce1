-- The clients and receivers of a run, and the holders whose shares are returned.
use Rattle.std.specs.Prelude.{◌≡◌, ◌<◌, List, ◌++◌, length, map}
use Rattle.std.specs.List.{All}
use Rattle.cops_core.specs.World.{Setting, home}
use Rattle.cops_cluster.specs.declared.client.Client.{Client}
use Rattle.cops_cluster.specs.declared.share.Holder.{Holder}
use Rattle.cops_cluster.specs.declared.share.Holder.TheVariants.{Client as OfClient, Receiver as OfReceiver}
use Rattle.cops_replication.specs.Wiring.{numbers}
use Rattle.cops_replication.specs.declared.receiver.Receiver.{Receiver}
use Rattle.cops_clients.specs.declared.clients.ClientTask.{ClientTask}

-- one of the setting's clients, in its data centre, with a share of its own
abbrev pub IsClientOf : Setting → Client → Type 0
IsClientOf s c = (c.number < length s.homes) × (c.dc ≡ home s c.number) × (c.dc < s.place.dcs) × (c.share.holder ≡ OfClient c.number)

-- each of the setting's clients has a task, in order
abbrev pub AreTasksOf : Setting → List ClientTask → Type 0
AreTasksOf s tasks = (map (λ (j : ClientTask). j.client.number) tasks ≡ numbers (length s.homes)) × All (λ (j : ClientTask). IsClientOf s j.client) tasks

-- the receiver of each data centre of the setting, in order, with a share of its own
abbrev pub AreReceiversOf : Setting → List Receiver → Type 0
AreReceiversOf s receivers = (map (λ (r : Receiver). r.dc) receivers ≡ numbers s.place.dcs) × All (λ (r : Receiver). r.share.holder ≡ OfReceiver r.dc) receivers

-- the clients of these tasks, and then these receivers
abbrev pub callers : List ClientTask → List Receiver → List Holder
callers tasks receivers = map (λ (j : ClientTask). OfClient j.client.number) tasks ++ map (λ (r : Receiver). OfReceiver r.dc) receivers
