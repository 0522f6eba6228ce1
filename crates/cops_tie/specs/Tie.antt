-- A run on threads as one run of the world: the entries of all books, in order of tickets.
use Rattle.std.specs.Prelude.{◌≡◌, ℕ, ◌+◌, ◌<◌, ◌/◌, ◌%◌, List, [], ◌∷◌, ◌++◌, length, map, All, Some}
use Rattle.std.specs.List.Sorted.{IsPermutation}
use Rattle.cops_types.specs.Histories.{Sessions}
use Rattle.cops_node.specs.declared.event.NodeEvent.{NodeEvent}
use Rattle.cops_node.specs.declared.event.NodeEvent.TheVariants.{Put, Del, Get, Deliver, Ask, Mark, Settle}
use Rattle.cops_core.specs.declared.event.Event.{Event}
use Rattle.cops_core.specs.declared.event.Event.TheVariants.{Put as PutBy, Del as DelBy, Get as GetBy, Deliver as DeliverTo, Ask as AskAt, Mark as MarkAt, Settle as SettleAt}
use Rattle.cops_core.specs.World.{Setting, World, Happens, act_of, context_in, home, opening, primary, sent}
use Rattle.cops_types.specs.NodeNumber.{place_of}
use Rattle.cops_node.specs.declared.entry.Entry.{Entry}

-- an entry, in the book of the node at a place of a data centre
pub record Placed : Type 0 where
  pub dc : ℕ
  pub place : ℕ
  pub entry : Entry

abbrev pub ticket : Placed → ℕ
ticket p = p.entry.ticket

-- the entries of books, the first of which is the nth node's, where each data centre has `nodes` nodes
abbrev pub placed : ℕ → ℕ → List (List Entry) → List Placed
placed nodes n [] = []
placed nodes n (book ∷ books) = map (λ e. record { dc = n / nodes; place = n % nodes; entry = e }) book ++ placed nodes (n + 1) books

-- the world's event for a node's event
abbrev pub event_at : ℕ → NodeEvent → Event
event_at dc (Put client key value deps) = PutBy client key value
event_at dc (Del client key deps) = DelBy client key
event_at dc (Get client key) = GetBy client key
event_at dc (Deliver put) = DeliverTo dc put.version
event_at dc (Ask key version) = AskAt dc key version
event_at dc (Mark version dep) = MarkAt dc version dep
event_at dc (Settle version) = SettleAt dc version

abbrev pub event_of : Placed → Event
event_of p = event_at p.dc p.entry.event

-- the place of the key's node, or of the node that gave the version
abbrev pub place_asked : Setting → NodeEvent → ℕ
place_asked s (Put client key value deps) = primary s key
place_asked s (Del client key deps) = primary s key
place_asked s (Get client key) = primary s key
place_asked s (Deliver put) = primary s put.key
place_asked s (Ask key version) = primary s key
place_asked s (Mark version dep) = place_of version
place_asked s (Settle version) = place_of version

-- `dc` is that client's data centre
abbrev pub IsHomeOf : Setting → ℕ → ℕ → Type 0
IsHomeOf s dc client = (client < length s.homes) × (home s client ≡ dc)

-- the event's arguments are those that the world has: the dependencies of a put or a deletion are its client's context, and a delivered put is the
-- issued one
abbrev pub IsFrom : Setting → World → ℕ → NodeEvent → Type 0
IsFrom s w dc (Put client key value deps) = IsHomeOf s dc client × (deps ≡ context_in w client)
IsFrom s w dc (Del client key deps) = IsHomeOf s dc client × (deps ≡ context_in w client)
IsFrom s w dc (Get client key) = IsHomeOf s dc client
IsFrom s w dc (Deliver put) = sent w.issued put.version ≡ Some put
IsFrom s w dc _ = Unit {0}

-- the entry continues the run, from one world to the next
pub record Continues (s : Setting) (w : World) (p : Placed) (next : World) : Type 0 where
  pub place : place_asked s p.entry.event ≡ p.place
  pub from : IsFrom s w p.dc p.entry.event
  pub happens : Happens s w (act_of (event_of p)) p.entry.outcome next

-- the ticket is below those of all entries that follow
abbrev pub IsBelow : Placed → List Placed → Type 0
IsBelow p ps = All (λ q. ticket p < ticket q) ps

-- each entry continues the run, and the tickets rise
abbrev pub Follows : Setting → World → List Placed → World → Type 0
Follows s w [] end = end ≡ w
Follows s w (p ∷ ps) end = IsBelow p ps × ((mid : World) × (Continues s w p mid × Follows s mid ps end))

-- the entries in some order
abbrev pub IsOrder : Setting → List (List Entry) → List Placed → Type 0
IsOrder s books order = IsPermutation (placed (length s.place.splits + 1) 0 books) order

-- The books are one run of the world up to this end, with these events, whose clients saw these sessions.
pub record IsTiedTo (s : Setting) (books : List (List Entry)) (sessions : Sessions) (events : List Event) (end : World) : Type 0 where
  pub order : List Placed
  pub all : IsOrder s books order
  pub follows : Follows s (opening s) order end
  pub saw : end.sessions ≡ sessions
  pub events_are : events ≡ map event_of order
