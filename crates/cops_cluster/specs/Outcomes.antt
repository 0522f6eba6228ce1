-- What a cluster's calls may return.
use Rattle.std.specs.Prelude.{◌≡◌, ◌≢◌, ◌⊎◌, ◌≤◌, ℕ, false, List, Option, Some, None}
use Rattle.cops_types.specs.declared.format.Format.{Format}
use Rattle.cops_types.specs.Format.{most_deps}
use Rattle.cops_types.specs.declared.refusal.Refusal.{Refusal}
use Rattle.cops_types.specs.declared.refusal.Refusal.TheVariants.{ClockExhausted, ContextFull, UnknownClient, NotInFormat, NotHeld, NoSuchDep, NoYes, DepsOpen, Memory, SessionFull}
use Rattle.cops_node.specs.declared.event.NodeEvent.{NodeEvent}
use Rattle.cops_node.specs.declared.outcome.Outcome.{Outcome}
use Rattle.cops_node.specs.declared.outcome.Outcome.TheVariants.{PutDone, Deleted, Got, Gone, Missed, Held, Repeat, Yes, Wait, Marked, Settled, Refused as RefusedWith}
use Rattle.cops_node.specs.Node.{Node, node_step}
use Rattle.cops_cluster.specs.declared.client.Client.{Client}
use Rattle.cops_cluster.specs.declared.cluster.Cluster.{Cluster}
use Rattle.cops_cluster.specs.declared.fault.Stop.{Stop}
use Rattle.cops_cluster.specs.declared.fault.Stop.TheVariants.{Refused, GateHeld}
use Rattle.cops_cluster.specs.Shares.{is_refusal_of_node}

-- some node gives this outcome for this event
abbrev pub IsNodeAnswer : NodeEvent → Outcome → Type 0
IsNodeAnswer event outcome = (old : Node) × (new : Node) × (node_step old event ≡ (outcome, new))

-- the refusals that a put or a deletion may get
abbrev pub IsWriteRefusal : Refusal → Type 0
IsWriteRefusal refused = (refused ≡ ClockExhausted) ⊎ (refused ≡ UnknownClient) ⊎ (refused ≡ NotInFormat) ⊎ (refused ≡ Memory) ⊎ (refused ≡ SessionFull)

-- the outcomes of a put: its version, or a refusal
abbrev pub IsPutOutcome : Outcome → Type 0
IsPutOutcome (PutDone version) = Unit {0}
IsPutOutcome (RefusedWith refused) = IsWriteRefusal refused
IsPutOutcome _ = ⊥

-- the outcomes of a deletion: its version, or a refusal
abbrev pub IsDelOutcome : Outcome → Type 0
IsDelOutcome (Deleted version) = Unit {0}
IsDelOutcome (RefusedWith refused) = IsWriteRefusal refused
IsDelOutcome _ = ⊥

-- the outcomes of a write of this content: a put, or a deletion where there is no value
abbrev pub IsWriteOutcome : Option (List ℕ) → Outcome → Type 0
IsWriteOutcome (Some value) = IsPutOutcome
IsWriteOutcome None = IsDelOutcome

-- the outcomes of a get: what it found, or nothing, or a refusal
abbrev pub IsGetOutcome : Outcome → Type 0
IsGetOutcome (Got value version) = Unit {0}
IsGetOutcome (Gone version) = Unit {0}
IsGetOutcome Missed = Unit {0}
IsGetOutcome (RefusedWith refused) = (refused ≡ ContextFull) ⊎ (refused ≡ UnknownClient) ⊎ (refused ≡ Memory) ⊎ (refused ≡ SessionFull)
IsGetOutcome _ = ⊥

-- the outcomes of a question in a data centre that exists: yes, not yet, or out of memory
abbrev pub IsAskOutcome : Outcome → Type 0
IsAskOutcome Yes = Unit {0}
IsAskOutcome Wait = Unit {0}
IsAskOutcome (RefusedWith refused) = refused ≡ Memory
IsAskOutcome _ = ⊥

-- the outcomes of a delivery in a data centre that exists: the put waits from now on, it was there before, or out of memory
abbrev pub IsDeliverOutcome : Outcome → Type 0
IsDeliverOutcome Held = Unit {0}
IsDeliverOutcome Repeat = Unit {0}
IsDeliverOutcome (RefusedWith refused) = refused ≡ Memory
IsDeliverOutcome _ = ⊥

-- the outcomes of a mark at a node that exists: done, or a refusal
abbrev pub IsMarkOutcome : Outcome → Type 0
IsMarkOutcome Marked = Unit {0}
IsMarkOutcome (RefusedWith refused) = (refused ≡ NotHeld) ⊎ (refused ≡ NoSuchDep) ⊎ (refused ≡ NoYes) ⊎ (refused ≡ Memory)
IsMarkOutcome _ = ⊥

-- the outcomes of a settlement at a node that exists: done, or a refusal
abbrev pub IsSettleOutcome : Outcome → Type 0
IsSettleOutcome Settled = Unit {0}
IsSettleOutcome (RefusedWith refused) = (refused ≡ NotHeld) ⊎ (refused ≡ DepsOpen) ⊎ (refused ≡ Memory)
IsSettleOutcome _ = ⊥

-- the cluster has no client of this number, no data centre of the client's, or another format than the client
abbrev pub IsUnknown : Cluster → Client → Type 0
IsUnknown c client = (c.clients ≤ client.number) ⊎ (c.place.dcs ≤ client.dc) ⊎ (client.context.format ≢ c.format)

-- a get that never reached a node: the client's context, which has `pairs` pairs, is full, or memory ran out
abbrev pub IsUnaskedGet : Format → ℕ → Outcome → Type 0
IsUnaskedGet format pairs outcome = ((outcome ≡ RefusedWith ContextFull) × (most_deps format ≤ pairs)) ⊎ (outcome ≡ RefusedWith Memory)

-- the refusals of a write of this content before a node is asked
abbrev pub IsUnaskedWrite : Option (List ℕ) → Refusal → Type 0
IsUnaskedWrite content refused = (is_refusal_of_node refused ≡ false) × IsWriteOutcome content (RefusedWith refused)

-- out of memory
abbrev pub IsOutOfMemory : Outcome → Type 0
IsOutOfMemory outcome = outcome ≡ RefusedWith Memory

-- a step that did not happen: the gate stopped it, or its refusal is one of these outcomes
abbrev pub StopsWith : (Outcome → Type 0) → Stop → Type 0
StopsWith Is (Refused refused) = Is (RefusedWith refused)
StopsWith Is GateHeld = Unit {0}
