-- Outcomes by their contents, and a node that has settled a pair.
use Rattle.std.specs.Prelude.{ℕ, max, List, Option}
use Rattle.cops_types.specs.Version.{clock_of}
use Rattle.cops_store.specs.Store.{with_settled}
use Rattle.cops_node.specs.declared.outcome.Outcome.{Outcome}
use Rattle.cops_node.specs.declared.outcome.Outcome.TheVariants.{Got, PutDone, Deleted, Held, Settled}
use Rattle.cops_node.specs.Node.{Node}

-- a get returned a value
abbrev pub IsGot : Outcome → Type 0
IsGot (Got value version) = Unit {0}
IsGot _ = ⊥

-- the answers that need memory: the node keeps a pair or a put, or copies a value
abbrev pub TakesMemory : Outcome → Type 0
TakesMemory (PutDone version) = Unit {0}
TakesMemory (Deleted version) = Unit {0}
TakesMemory (Got value version) = Unit {0}
TakesMemory Held = Unit {0}
TakesMemory Settled = Unit {0}
TakesMemory _ = ⊥

-- a pair is settled, and the clock rises to that of its version
abbrev pub settled_at : Node → List ℕ → Option (List ℕ) → ℕ → Node
settled_at n key content version = record {
  number = n.number;
  clock = max n.clock (clock_of version);
  settled = with_settled n.settled (record { key = key; value = content; version = version });
  held = n.held;
}
