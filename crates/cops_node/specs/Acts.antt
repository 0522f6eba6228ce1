-- What an event asks of a node. A put and a deletion are both writes.
use Rattle.std.specs.Prelude.{ℕ, List, Option, Some, None}
use Rattle.cops_types.specs.declared.dep.Dep.{Dep}
use Rattle.cops_types.specs.declared.put_record.PutRecord.{PutRecord}
use Rattle.cops_node.specs.declared.event.NodeEvent.{NodeEvent}
use Rattle.cops_node.specs.declared.event.NodeEvent.TheVariants as event
use Rattle.cops_node.specs.declared.outcome.Outcome.{Outcome}
use Rattle.cops_node.specs.declared.outcome.Outcome.TheVariants.{PutDone, Deleted, Got, Gone}

-- a client writes a content at a key, or deletes the key where there is no value; and the other events
pub data Act : Type 0 where
  Write : ℕ → List ℕ → Option (List ℕ) → List Dep → Act
  Get : ℕ → List ℕ → Act
  Deliver : PutRecord → Act
  Ask : List ℕ → ℕ → Act
  Mark : ℕ → ℕ → Act
  Settle : ℕ → Act

abbrev pub act_of : NodeEvent → Act
act_of (event.Put client key value deps) = Write client key (Some value) deps
act_of (event.Del client key deps) = Write client key None deps
act_of (event.Get client key) = Get client key
act_of (event.Deliver put) = Deliver put
act_of (event.Ask key version) = Ask key version
act_of (event.Mark version dep) = Mark version dep
act_of (event.Settle version) = Settle version

-- the outcome of a write of this content at this version
abbrev pub written : Option (List ℕ) → ℕ → Outcome
written (Some value) version = PutDone version
written None version = Deleted version

-- the version that a write was given, if it was done
abbrev pub version_given : Outcome → Option ℕ
version_given (PutDone version) = Some version
version_given (Deleted version) = Some version
version_given _ = None

-- the outcome of a get that found this content at this version
abbrev pub found : Option (List ℕ) → ℕ → Outcome
found (Some value) version = Got value version
found None version = Gone version
