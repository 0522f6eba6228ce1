-- Definitions that the contracts of a cluster and of its clients' calls use.
use Rattle.std.specs.Prelude.{◌≡◌, ◌<◌, ◌+◌, ◌⊎◌, ℕ, List, [], ◌∷◌, drop, length, Option, None, Some, option_map, false}
use Rattle.cops_types.specs.declared.dep.Dep.{Dep}
use Rattle.cops_types.specs.Histories.{Operation, write, read, missed}
use Rattle.cops_types.specs.declared.gate.Point.{Point}
use Rattle.cops_types.specs.declared.gate.Point.TheVariants.{InStep, Answered}
use Rattle.cops_context.specs.Context.{with_pair}
use Rattle.cops_node.specs.Acts.{version_given}
use Rattle.cops_node.specs.declared.event.NodeEvent.{NodeEvent}
use Rattle.cops_node.specs.declared.event.NodeEvent.TheVariants.{Put, Del}
use Rattle.cops_node.specs.declared.outcome.Outcome.{Outcome}
use Rattle.cops_node.specs.declared.outcome.Outcome.TheVariants.{Got, Gone, Missed}
use Rattle.cops_place.specs.Place.{primary}
use Rattle.cops_types.specs.NodeNumber.{node_number}
use Rattle.cops_node.specs.Book.{puts_in}
use Rattle.cops_node.specs.declared.entry.Entry.{Entry}
use Rattle.cops_node.specs.declared.recorded.IssuedPuts.{IssuedPuts}
use Rattle.cops_cluster.specs.declared.client.Client.{Client}
use Rattle.cops_cluster.specs.declared.cluster.Cluster.{Cluster}
use Rattle.cops_cluster.specs.declared.fault.Stop.{Stop}
use Rattle.cops_cluster.specs.declared.fault.Stop.TheVariants.{Refused, GateHeld}
use Rattle.cops_cluster.specs.Shares.{is_refusal_of_node}

-- there is a node at this place of this data centre
abbrev pub IsNode : Cluster → ℕ → ℕ → Type 0
IsNode c dc place = (dc < c.place.dcs) × (place < length c.place.splits + 1)

-- the puts that the entries of some book issued, from a place on, and the number of entries of that book
abbrev pub IsPutsFrom : ℕ → IssuedPuts → Type 0
IsPutsFrom from p = (entries : List Entry) × (p.puts.items ≡ puts_in (drop from entries)) × (p.entries ≡ length entries)

-- the number of a key's node in a data centre
abbrev pub node_of : Cluster → ℕ → List ℕ → ℕ
node_of c dc key = node_number dc (primary c.place.splits key)

-- both are one client: the number, the data centre, the share's holder and the context's format do not change
abbrev pub IsSameClient : Client → Client → Type 0
IsSameClient a b = (b.number ≡ a.number) × (b.dc ≡ a.dc) × (b.share.holder ≡ a.share.holder) × (b.context.format ≡ a.context.format)

-- the gate may hold a step of this client at this node
abbrev pub MayHoldStep : (Point → Type 0) → ℕ → ℕ → Type 0
MayHoldStep may_hold node client = may_hold (InStep node client) ⊎ may_hold (Answered node client)

-- the event that a client's write sends to the node: a put of the content, or a deletion where there is no value
abbrev pub write_event : ℕ → List ℕ → Option (List ℕ) → List Dep → NodeEvent
write_event client key (Some value) deps = Put client key value deps
write_event client key None deps = Del client key deps

-- the client's context after its write: the pair of the write alone if it was given a version, and otherwise unchanged
abbrev pub after_version : List Dep → List ℕ → Option ℕ → List Dep
after_version pairs key None = pairs
after_version pairs key (Some version) = record { key = key; version = version } ∷ []

-- the client's context after the answer to a put or a deletion
abbrev pub after_write : List Dep → List ℕ → Outcome → List Dep
after_write pairs key outcome = after_version pairs key (version_given outcome)

-- the client's context after the answer to a get: the pair of the value or the deletion that was found is added
abbrev pub after_get : List Dep → List ℕ → Outcome → List Dep
after_get pairs key (Got value version) = with_pair pairs (record { key = key; version = version })
after_get pairs key (Gone version) = with_pair pairs (record { key = key; version = version })
after_get pairs key _ = pairs

-- the operation that a client saw of its write, if any
abbrev pub write_seen : List ℕ → Option (List ℕ) → Outcome → Option Operation
write_seen key content outcome = option_map (λ version. write key content version) (version_given outcome)

-- the operation that a client saw of its get, if any
abbrev pub get_seen : List ℕ → Outcome → Option Operation
get_seen key (Got value version) = Some (read key (Some value) version)
get_seen key (Gone version) = Some (read key None version)
get_seen key Missed = Some (missed key)
get_seen key _ = None

-- why a step did not happen: a refusal that is none of a node's own, or the gate, which may hold it there
abbrev pub IsStop : (Point → Type 0) → ℕ → ℕ → Stop → Type 0
IsStop may_hold node client (Refused refused) = is_refusal_of_node refused ≡ false
IsStop may_hold node client GateHeld = may_hold (InStep node client)
