-- The world: its nodes, the issued puts, the Yes answers, and each client's context and session.
use Rattle.std.specs.Prelude.{◌≡◌, ℕ, zero, suc, ◌+◌, ◌⊎◌, List, [], ◌∷◌, ◌++◌, Bool, true, if◌then◌else◌, ◌==◌, ◌&&◌, nat_lt, length, sum_by, find, replicate, flat_map, slice_set, slice_index_or, Option, Some, None, is_some}
use Rattle.std.specs.List.{list_any}
use Rattle.cops_types.specs.declared.limits.TheConstants.{MAX_CLIENT_OPS, MAX_OPS}
use Rattle.cops_types.specs.declared.dep.Dep.{Dep}
use Rattle.cops_types.specs.declared.put_record.PutRecord.{PutRecord}
use Rattle.cops_types.specs.declared.refusal.Refusal.{Refusal}
use Rattle.cops_types.specs.declared.refusal.Refusal.TheVariants.{UnknownClient, NotInFormat, SessionFull, ContextFull, UnknownDc, NeverSent, NoYes, Memory}
use Rattle.cops_types.specs.Histories.{Sessions, with_op, Operation, write, read, missed}
use Rattle.cops_types.specs.Dep.{is_same_dep}
use Rattle.cops_types.specs.Format.{most_deps, fits}
use Rattle.cops_types.specs.NodeNumber.{node_number, place_of}
use Rattle.cops_context.specs.Context.{with_pair}
use Rattle.cops_store.specs.Store.{Stored}
use Rattle.cops_held.specs.Held.{waiting}
use Rattle.cops_node.specs.Acts.{Act as NodeAct, Write as NodeWrite, Get as NodeGet, Deliver as NodeDeliver, Ask as NodeAsk, Mark as NodeMark, Settle as NodeSettle, version_given}
use Rattle.cops_node.specs.declared.outcome.Outcome.{Outcome}
use Rattle.cops_node.specs.declared.outcome.Outcome.TheVariants.{Got as Answered, Gone, Missed as Nothing, Yes, Refused}
use Rattle.cops_node.specs.Node.{Node, opened, dep_at, act_step}
pub use Rattle.cops_place.specs.Place.{Setting, IsSetting, home, primary_in as primary}
pub use Rattle.cops_core.specs.declared.event.Said.{Said}
pub use Rattle.cops_core.specs.declared.event.Event.{Event}
pub use Rattle.cops_core.specs.Acts.{Act, WriteBy, GetBy, DeliverTo, AskAt, MarkAt, SettleAt, act_of}

pub record World : Type 0 where
  pub nodes : List (List Node)  -- of each data centre, by place
  pub issued : List PutRecord  -- in the order in which clients wrote them
  pub said : List Said  -- the answers Yes
  pub contexts : List (List Dep)  -- of each client
  pub sessions : Sessions

-- the first nodes of a data centre, newly opened
abbrev pub row : ℕ → ℕ → List Node
row dc zero = []
row dc (suc n) = row dc n ++ opened (node_number dc n) ∷ []

-- the nodes of the first data centres
abbrev pub rows : ℕ → ℕ → List (List Node)
rows places zero = []
rows places (suc n) = rows places n ++ row n places ∷ []

abbrev pub opening : Setting → World
opening s = record {
  nodes = rows (length s.place.splits + 1) s.place.dcs;
  issued = [];
  said = [];
  contexts = replicate (length s.homes) [];
  sessions = replicate (length s.homes) [];
}

-- the node at a place of a data centre, or an empty one if there is none
abbrev pub node_at : World → ℕ → ℕ → Node
node_at w dc place = slice_index_or (slice_index_or w.nodes dc []) place (opened (node_number dc place))

abbrev pub with_node : World → ℕ → ℕ → Node → World
with_node w dc place n = record w { nodes = slice_set w.nodes dc (slice_set (slice_index_or w.nodes dc []) place n) }

abbrev pub context_in : World → ℕ → List Dep
context_in w client = slice_index_or w.contexts client []

-- the client's session gains an operation, and its context is this one
abbrev pub with_answer : World → ℕ → Operation → List Dep → World
with_answer w client op context = record w { contexts = slice_set w.contexts client context; sessions = with_op w.sessions client op }

abbrev pub with_issued : World → PutRecord → World
with_issued w put = record w { issued = w.issued ++ put ∷ [] }

-- the put of a version
abbrev pub sent : List PutRecord → ℕ → Option PutRecord
sent issued version = find (λ p. version == p.version) issued

abbrev pub same_said : Said → Said → Bool
same_said a b = (a.dc == b.dc) && is_same_dep a.pair b.pair

abbrev pub was_said : List Said → Said → Bool
was_said said y = list_any (same_said y) said

-- the Yes answers with one more, unless it is there
abbrev pub gained : List Said → Said → List Said
gained said y = if was_said said y then said else said ++ y ∷ []

abbrev pub with_said : World → Said → World
with_said w y = record w { said = gained w.said y }

-- no dependency, or one for which the data centre has answered Yes
abbrev pub is_answered : List Said → ℕ → Option Dep → Bool
is_answered said dc None = true
is_answered said dc (Some pair) = was_said said (record { dc = dc; pair = pair })

abbrev pub knows : World → ℕ → Bool
knows w client = nat_lt client (length w.sessions)

abbrev pub has_room : World → ℕ → Bool
has_room w client = nat_lt (length (slice_index_or w.sessions client [])) MAX_CLIENT_OPS && nat_lt (sum_by length w.sessions) MAX_OPS

-- the client's context has room for one more pair
abbrev pub has_context_room : Setting → World → ℕ → Bool
has_context_room s w client = nat_lt (length (context_in w client)) (most_deps s.format)

abbrev pub is_dc : Setting → ℕ → Bool
is_dc s dc = nat_lt dc s.place.dcs

-- The checks that an act makes of the world, in the order of the refusals. If all pass, a node is asked, which may refuse too.
abbrev pub checks : Setting → World → Act → List (Bool × Refusal)
checks s w (WriteBy client key content) = (knows w client, UnknownClient) ∷ (fits s.format content, NotInFormat) ∷ (has_room w client, SessionFull) ∷ []
checks s w (GetBy client key) = (knows w client, UnknownClient) ∷ (has_room w client, SessionFull) ∷ (has_context_room s w client, ContextFull) ∷ []
checks s w (DeliverTo dc version) = (is_dc s dc, UnknownDc) ∷ (is_some (sent w.issued version), NeverSent) ∷ []
checks s w (AskAt dc key version) = (is_dc s dc, UnknownDc) ∷ []
checks s w (MarkAt dc version dep) = (is_dc s dc, UnknownDc) ∷ (is_answered w.said dc (dep_at (waiting (node_at w dc (place_of version)).held version) dep), NoYes) ∷ []
checks s w (SettleAt dc version) = (is_dc s dc, UnknownDc) ∷ []

-- the refusal of the first check that fails
abbrev pub refusal : List (Bool × Refusal) → Option Refusal
refusal [] = None
refusal (t ∷ tests) = if t.0 then refusal tests else Some t.1

-- a client's write is issued with the client's context as its dependencies, and the context becomes the new pair alone
abbrev pub wrote : World → ℕ → List ℕ → Option (List ℕ) → Option ℕ → World
wrote w client key content None = w
wrote w client key content (Some version) =
    with_answer (with_issued w (record { key = key; value = content; version = version; deps = context_in w client }))
    client (write key content version) (record { key = key; version = version } ∷ [])

-- a client's context gains the pair that a get of the client found
abbrev pub met : World → ℕ → List ℕ → Option (List ℕ) → ℕ → World
met w client key content version = with_answer w client (read key content version) (with_pair (context_in w client) (record { key = key; version = version }))

-- the world after a node's answer, with the node's new state
abbrev pub keeps : World → ℕ → ℕ → Act → Outcome → Node → World
keeps w dc place (WriteBy client key content) outcome n = wrote (with_node w dc place n) client key content (version_given outcome)
keeps w dc place (GetBy client key) (Answered value version) n = met (with_node w dc place n) client key (Some value) version
keeps w dc place (GetBy client key) (Gone version) n = met (with_node w dc place n) client key None version
keeps w dc place (GetBy client key) Nothing n = with_answer (with_node w dc place n) client (missed key) (context_in w client)
keeps w dc place (AskAt d key version) Yes n = with_said (with_node w dc place n) (record { dc = d; pair = record { key = key; version = version } })
keeps w dc place act outcome n = with_node w dc place n

-- the node at a place answers, and the world stores what the answer requires
abbrev pub asks : World → Act → ℕ → ℕ → NodeAct → Outcome × World
asks w act dc place asked = let r = act_step (node_at w dc place) asked in (r.0, keeps w dc place act r.0 r.1)

abbrev pub delivers : Setting → World → ℕ → ℕ → Option PutRecord → Outcome × World
delivers s w dc version None = (Refused NeverSent, w)
delivers s w dc version (Some put) = asks w (DeliverTo dc version) dc (primary s put.key) (NodeDeliver put)

-- the node to which an act goes, and the node's act
abbrev pub done : Setting → World → Act → Outcome × World
done s w (WriteBy client key content) = asks w (WriteBy client key content) (home s client) (primary s key) (NodeWrite client key content (context_in w client))
done s w (GetBy client key) = asks w (GetBy client key) (home s client) (primary s key) (NodeGet client key)
done s w (DeliverTo dc version) = delivers s w dc version (sent w.issued version)
done s w (AskAt dc key version) = asks w (AskAt dc key version) dc (primary s key) (NodeAsk key version)
done s w (MarkAt dc version dep) = asks w (MarkAt dc version dep) dc (place_of version) (NodeMark version dep)
done s w (SettleAt dc version) = asks w (SettleAt dc version) dc (place_of version) (NodeSettle version)

abbrev pub unless : World → Option Refusal → Outcome × World → Outcome × World
unless w (Some refused) next = (Refused refused, w)
unless w None next = next

-- the outcome if memory does not run out, and the world afterwards
abbrev pub happens : Setting → World → Act → Outcome × World
happens s w act = unless w (refusal (checks s w act)) (done s w act)

-- an act has this outcome, or is refused because memory ran out
abbrev pub Happens : Setting → World → Act → Outcome → World → Type 0
Happens s old act outcome new = (happens s old act ≡ (outcome, new)) ⊎ ((outcome ≡ Refused Memory) × (new ≡ old))

-- a run: events with their outcomes
abbrev pub Run : Setting → World → List Event → List Outcome → World → Type 0
Run s old [] [] new = new ≡ old
Run s old (event ∷ events) (outcome ∷ outcomes) new = (mid : World) × (Happens s old (act_of event) outcome mid × Run s mid events outcomes new)
Run s old [] (outcome ∷ outcomes) new = ⊥
Run s old (event ∷ events) [] new = ⊥

-- the world is reached from the new one by some events with their outcomes
abbrev pub IsReached : Setting → World → Type 0
IsReached s w = (events : List Event) × (outcomes : List Outcome) × Run s (opening s) events outcomes w

-- everything that the nodes of a data centre have settled
abbrev pub settled_in : World → ℕ → List Stored
settled_in w dc = flat_map (λ n. n.settled) (slice_index_or w.nodes dc [])
