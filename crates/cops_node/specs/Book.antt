-- What a node's book keeps.
use Rattle.std.specs.Prelude.{◌≡◌, ℕ, List, [], ◌∷◌, Option, None, Some}
use Rattle.cops_types.specs.declared.put_record.PutRecord.{PutRecord}
use Rattle.cops_node.specs.declared.event.NodeEvent.{NodeEvent}
use Rattle.cops_node.specs.declared.event.NodeEvent.TheVariants.{Put, Del}
use Rattle.cops_node.specs.declared.outcome.Outcome.{Outcome}
use Rattle.cops_node.specs.declared.outcome.Outcome.TheVariants.{PutDone, Deleted}
use Rattle.cops_node.specs.Node.{Node, node_step}
use Rattle.cops_node.specs.declared.entry.Entry.{Entry}

-- the entries' events, in order, lead the node from one state to the other, and each has its entry's outcome
abbrev pub Replays : Node → List Entry → Node → Type 0
Replays s [] t = s ≡ t
Replays s (e ∷ es) t = (e.outcome ≡ (node_step s e.event).0) × Replays (node_step s e.event).1 es t

-- a node, and the entries of its steps
pub record ABook : Type 0 where
  pub node : Node
  pub entries : List Entry

abbrev pub entry : ℕ → NodeEvent → Outcome → Entry
entry ticket event outcome = record { ticket = ticket; event = event; outcome = outcome }

-- the put that a step issued, if it issued one; a deletion is a put without a content
abbrev pub put_made : NodeEvent → Outcome → Option PutRecord
put_made (Put client key value deps) (PutDone version) = Some (record { key = key; value = Some value; version = version; deps = deps })
put_made (Del client key deps) (Deleted version) = Some (record { key = key; value = None; version = version; deps = deps })
put_made _ _ = None

abbrev pub with_put : Option PutRecord → List PutRecord → List PutRecord
with_put None puts = puts
with_put (Some put) puts = put ∷ puts

-- the puts that these entries issued
abbrev pub puts_in : List Entry → List PutRecord
puts_in [] = []
puts_in (e ∷ es) = with_put (put_made e.event e.outcome) (puts_in es)
