-- One node: its state, and its answer to each event.
use Rattle.std.specs.Prelude.{◌≡◌, ◌⊎◌, ℕ, ◌+◌, max, if◌then◌else◌, ◌||◌, nat_lt, List, [], ◌∷◌, length, slice_get, Option, None, Some, is_some}
use Rattle.cops_types.specs.declared.dep.Dep.{Dep}
use Rattle.cops_types.specs.declared.put_record.PutRecord.{PutRecord}
use Rattle.cops_types.specs.declared.limits.TheConstants.{MAX_CLOCK}
use Rattle.cops_types.specs.declared.refusal.Refusal.TheVariants.{ClockExhausted, NotHeld, NoSuchDep, DepsOpen, Memory}
use Rattle.cops_types.specs.Version.{clock_of}
use Rattle.cops_types.specs.NodeNumber.{version_of}
use Rattle.cops_store.specs.Store.{Stored, has_pair, with_settled, shown}
use Rattle.cops_held.specs.Held.{Waiting, unmarked, waiting, with_waiting, all_marked, with_mark, without}
use Rattle.cops_node.specs.declared.event.NodeEvent.{NodeEvent}
use Rattle.cops_node.specs.declared.outcome.Outcome.{Outcome}
use Rattle.cops_node.specs.declared.outcome.Outcome.TheVariants.{Missed, Held, Repeat, Yes, Wait, Marked, Settled, Refused}
use Rattle.cops_node.specs.Acts.{Act, Write, Get, Deliver, Ask, Mark, Settle, act_of, written, found}

pub record Node : Type 0 where
  pub number : ℕ
  pub clock : ℕ
  pub settled : List Stored  -- in the order in which they were settled
  pub held : List Waiting  -- in order of versions

abbrev pub opened : ℕ → Node
opened number = record { number = number; clock = 0; settled = []; held = [] }

-- the pair of a put, and the put as it is settled
abbrev pub put_pair : PutRecord → Dep
put_pair put = record { key = put.key; version = put.version }

abbrev pub stored_of : PutRecord → Stored
stored_of put = record { key = put.key; value = put.value; version = put.version }

-- the greatest clock among this one and those of the pairs
abbrev pub raised : ℕ → List Dep → ℕ
raised clock [] = clock
raised clock (d ∷ deps) = raised (max clock (clock_of d.version)) deps

-- a client's write is settled at once, at a version of this clock
abbrev pub write_at : Node → List ℕ → Option (List ℕ) → ℕ → Outcome × Node
write_at n key content clock =
    let version = version_of clock n.number in
    (written content version, record n { clock = clock; settled = with_settled n.settled (record { key = key; value = content; version = version }) })

-- a client's write, with its context `deps`: its version is above those of its dependencies
abbrev pub writes : Node → List ℕ → Option (List ℕ) → List Dep → Outcome × Node
writes n key content deps =
    if nat_lt (raised n.clock deps) MAX_CLOCK then write_at n key content (raised n.clock deps + 1) else (Refused ClockExhausted, n)

-- the answer to a get: what the key shows
abbrev pub answer : Option Stored → Outcome
answer None = Missed
answer (Some s) = found s.value s.version

-- a dependency of the put that waits, if there is one, is marked
abbrev pub mark_at : Node → ℕ → ℕ → Option Waiting → Outcome × Node
mark_at n version dep None = (Refused NotHeld, n)
mark_at n version dep (Some w) =
    if nat_lt dep (length w.put.deps) then (Marked, record n { held = with_mark n.held version dep }) else (Refused NoSuchDep, n)

-- a waiting put leaves the table and is settled, and the clock rises to that of its version
abbrev pub settled_node : Node → PutRecord → Node
settled_node n put =
    record n { clock = max n.clock (clock_of put.version); settled = with_settled n.settled (stored_of put); held = without n.held put.version }

abbrev pub settle_at : Node → Option Waiting → Outcome × Node
settle_at n None = (Refused NotHeld, n)
settle_at n (Some w) = if all_marked w then (Settled, settled_node n w.put) else (Refused DepsOpen, n)

-- The node's answer, and the node afterwards. A delivered put waits, unless it already waits or is settled; the answer to a question is Yes for
-- exactly a settled pair.
abbrev pub act_step : Node → Act → Outcome × Node
act_step n (Write client key content deps) = writes n key content deps
act_step n (Get client key) = (answer (shown n.settled key), n)
act_step n (Deliver put) =
    if is_some (waiting n.held put.version) || has_pair n.settled (put_pair put)
    then (Repeat, n)
    else (Held, record n { held = with_waiting n.held (unmarked put) })
act_step n (Ask key version) = (if has_pair n.settled (record { key = key; version = version }) then Yes else Wait, n)
act_step n (Mark version dep) = mark_at n version dep (waiting n.held version)
act_step n (Settle version) = settle_at n (waiting n.held version)

abbrev pub node_step : Node → NodeEvent → Outcome × Node
node_step n event = act_step n (act_of event)

-- the act's step, or no step because memory ran out
abbrev pub ActHappens : Node → Act → Outcome → Node → Type 0
ActHappens old act outcome new = (act_step old act ≡ (outcome, new)) ⊎ ((outcome ≡ Refused Memory) × (new ≡ old))

-- the event's step, or no step because memory ran out
abbrev pub NodeHappens : Node → NodeEvent → Outcome → Node → Type 0
NodeHappens old event = ActHappens old (act_of event)

-- a dependency of the put that waits, if there is one, by its index
abbrev pub dep_at : Option Waiting → ℕ → Option Dep
dep_at None dep = None
dep_at (Some w) dep = slice_get w.put.deps dep
