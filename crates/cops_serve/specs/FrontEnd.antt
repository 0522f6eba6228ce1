-- What the calls of a front end do.
use Rattle.std.specs.Prelude.{◌≡◌, ◌<◌, ◌≤◌, ◌+◌, ◌↔◌, ℕ, List, length, slice_get, slice_set, Option, Some, None, Result, Ok, Err, MatchOption, vec_len, vec_capacity, IsSome, IsNone}
use Rattle.cops_types.specs.declared.put_record.NodeStatus.{NodeStatus}
use Rattle.cops_types.specs.declared.refusal.Refusal.{Refusal}
use Rattle.cops_types.specs.declared.refusal.Refusal.TheVariants.{ContextFull, NotInFormat, UnknownClient}
use Rattle.cops_types.specs.Format.{Fits, most_deps}
use Rattle.cops_node.specs.declared.event.NodeEvent.TheVariants.{Get, Ask}
use Rattle.cops_node.specs.declared.outcome.Outcome.{Outcome}
use Rattle.cops_node.specs.declared.outcome.Outcome.TheVariants.{Wait, Refused}
use Rattle.cops_cluster.specs.declared.client.Client.{Client}
use Rattle.cops_cluster.specs.declared.cluster.Cluster.{Cluster}
use Rattle.cops_cluster.specs.Cluster.{IsNode, IsSameClient, after_get, after_write, node_of, write_event}
use Rattle.cops_cluster.specs.Lending.{with_share}
use Rattle.cops_cluster.specs.Outcomes.{IsUnknown}
use Rattle.cops_cluster.specs.Shares.{Adds}
use Rattle.cops_net.specs.declared.reply.Reply.{Reply}
use Rattle.cops_serve.specs.declared.front_end.FrontEnd.{FrontEnd}
use Rattle.cops_serve.specs.declared.front_end.Greeted.{Greeted}
use Rattle.cops_serve.specs.Replying.{IsReplyIn, IsReplyTo}

-- memory is reserved for a call, and for the copies that it records
abbrev pub HasRoom : FrontEnd → Type 0
HasRoom f = IsSome f.room × (vec_len f.calls < vec_capacity f.calls)

-- the calls and the memory reserved for them are unchanged
abbrev pub IsUnnoted : FrontEnd → FrontEnd → Type 0
IsUnnoted old new = (new.calls ≡ old.calls) × (new.room ≡ old.room)

-- the number of turns, the cluster, its senders and receivers, the client that has greeted, and the number of ended sessions are unchanged
abbrev pub IsSameSession : FrontEnd → FrontEnd → Type 0
IsSameSession old new =
    (new.turns ≡ old.turns)
    × (new.cluster ≡ old.cluster)
    × (new.senders ≡ old.senders)
    × (new.receivers ≡ old.receivers)
    × (new.greeted ≡ old.greeted)
    × (new.ended ≡ old.ended)

-- `IsSameSession`, and no client changed
abbrev pub IsSame : FrontEnd → FrontEnd → Type 0
IsSame old new = IsSameSession old new × (new.clients ≡ old.clients)

-- the client of this number changed by `IfGreeted`, and no other client changed
abbrev pub ChangesBy : FrontEnd → ℕ → (Client → Client → Type 0) → FrontEnd → Type 0
ChangesBy old number IfGreeted new =
    (before : Client) × (after : Client)
    × (slice_get old.clients.items number ≡ Some before)
    × (new.clients.items ≡ slice_set old.clients.items number after)
    × IfGreeted before after

-- ---- greetings

-- there is a client of this number in this data centre, which exists
abbrev pub IsHome : FrontEnd → ℕ → ℕ → Type 0
IsHome f number dc = (client : Client) × (slice_get f.clients.items number ≡ Some client) × (client.dc ≡ dc) × (dc < f.cluster.place.dcs)

-- A greeting is answered with the client's data centre and the number of nodes of each, and from now on this client is the one that has greeted; or
-- it is refused with 3 (`UnknownClient`) where there is no such client, and the client that has greeted stays.
abbrev pub Hellos : FrontEnd → ℕ → Result (ℕ × ℕ) Refusal → FrontEnd → Type 0
Hellos old number (Ok place) new =
    IsHome old number place.0
    × (place.1 ≡ length old.cluster.place.splits + 1)
    × (new.greeted ≡ Some (record { client = number; dc = place.0 }))
    × (new.clients ≡ old.clients)
    × (new.cluster ≡ old.cluster)
Hellos old number (Err refused) new = ((dc : ℕ) → IsHome old number dc → ⊥) × (refused ≡ UnknownClient) × IsSame old new

-- ---- writes, gets and questions

-- What a client's write of a content changes in the client, by the outcome: the entry in its share, where a node answered, and its context. The write
-- is refused with 3 (`UnknownClient`) only where the cluster does not know the client, and with 12 (`NotInFormat`) only where its format does not
-- have the content.
abbrev pub HasWritten : Cluster → List ℕ → Option (List ℕ) → Outcome → Client → Client → Type 0
HasWritten c key content out before after =
    IsSameClient before after
    × Adds before.share.entries.items after.share.entries.items (node_of c before.dc key) (write_event before.number key content before.context.pairs) out
    × (after.context.pairs ≡ after_write before.context.pairs key out)
    × (out ≡ Refused UnknownClient → IsUnknown c before)
    × (out ≡ Refused NotInFormat → ¬ Fits c.format content)

-- what a client's get changes in the client, like `HasWritten`; it is refused with 2 (`ContextFull`) only where the client's context is full, and
-- there it is always refused
abbrev pub HasGot : Cluster → List ℕ → Outcome → Client → Client → Type 0
HasGot c key out before after =
    IsSameClient before after
    × Adds before.share.entries.items after.share.entries.items (node_of c before.dc key) (Get before.number key) out
    × (after.context.pairs ≡ after_get before.context.pairs key out)
    × (out ≡ Refused UnknownClient → IsUnknown c before)
    × (out ≡ Refused ContextFull → most_deps c.format ≤ length before.context.pairs)
    × (most_deps c.format ≤ length before.context.pairs → (refused : Refusal) × (out ≡ Refused refused))

-- what a client's question in a data centre changes in the client, like `HasWritten`: its share alone
abbrev pub HasAsked : Cluster → ℕ → List ℕ → ℕ → Outcome → Client → Client → Type 0
HasAsked c dc key version out before after =
    (after ≡ with_share before after.share)
    × (after.share.holder ≡ before.share.holder)
    × Adds before.share.entries.items after.share.entries.items (node_of c dc key) (Ask key version) out

-- The client that has greeted changed by `IfGreeted`, or no client has greeted and `IfNotGreeted` holds. No other client changed.
abbrev pub DoneByGreeted : FrontEnd → Type 0 → (Greeted → Client → Client → Type 0) → FrontEnd → Type 0
DoneByGreeted old IfNotGreeted IfGreeted new =
    IsSameSession old new
    × MatchOption old.greeted (IfNotGreeted × (new.clients ≡ old.clients)) (λ g. ChangesBy old g.client (IfGreeted g) new)

-- The client that has greeted writes a content with this outcome. Where no client has greeted, the write is refused with 3 (`UnknownClient`).
abbrev pub WritesAs : FrontEnd → List ℕ → Option (List ℕ) → Outcome → FrontEnd → Type 0
WritesAs old key content out new = DoneByGreeted old (out ≡ Refused UnknownClient) (λ g. HasWritten old.cluster key content out) new

-- The client that has greeted gets a key with this outcome. Where no client has greeted, the get is refused with 3 (`UnknownClient`).
abbrev pub GetsAs : FrontEnd → List ℕ → Outcome → FrontEnd → Type 0
GetsAs old key out new = DoneByGreeted old (out ≡ Refused UnknownClient) (λ g. HasGot old.cluster key out) new

-- The client that has greeted asks in its data centre, with this outcome. Where no client has greeted, the outcome is: not yet.
abbrev pub AsksAs : FrontEnd → List ℕ → ℕ → Outcome → FrontEnd → Type 0
AsksAs old key version out new = DoneByGreeted old (out ≡ Wait) (λ g. HasAsked old.cluster g.dc key version out) new

-- the reply reports the outcome of the write that was done
abbrev pub Writes : FrontEnd → List ℕ → Option (List ℕ) → Reply → FrontEnd → Type 0
Writes old key content reply new = (out : Outcome) × IsReplyTo out reply × WritesAs old key content out new

-- a put of a value
abbrev pub Puts : FrontEnd → List ℕ → List ℕ → Reply → FrontEnd → Type 0
Puts old key value reply new = Writes old key (Some value) reply new

-- a deletion
abbrev pub Dels : FrontEnd → List ℕ → Reply → FrontEnd → Type 0
Dels old key reply new = Writes old key None reply new

-- the reply reports the outcome of the get, in the cluster's format
abbrev pub Gets : FrontEnd → List ℕ → Reply → FrontEnd → Type 0
Gets old key reply new = (out : Outcome) × IsReplyIn old.cluster.format out reply × GetsAs old key out new

abbrev pub Checks : FrontEnd → List ℕ → ℕ → Reply → FrontEnd → Type 0
Checks old key version reply new = (out : Outcome) × IsReplyTo out reply × AsksAs old key version out new

-- ---- other calls

-- the node's status is returned where the data centre of the client that has greeted has such a node, and nothing else changed
abbrev pub Statuses : FrontEnd → ℕ → Option NodeStatus → FrontEnd → Type 0
Statuses old place answer new = IsSame old new × MatchOption old.greeted (IsNone answer) (λ g. IsSome answer ↔ IsNode old.cluster g.dc place)

-- no client has greeted from now on, and no client changed
abbrev pub Ends : FrontEnd → FrontEnd → Type 0
Ends old new = IsNone new.greeted × (new.clients ≡ old.clients) × (new.turns ≡ old.turns) × (new.cluster ≡ old.cluster)
