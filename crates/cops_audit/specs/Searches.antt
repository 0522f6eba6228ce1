-- Pasts of any history, as counts.
use Rattle.std.specs.Prelude.{◌≡◌, ◌<◌, ◌⊎◌, ◌↔◌, ℕ, List, length, Contains, AllPairs, slice_index}
use Rattle.cops_types.specs.declared.op.OpName.{OpName}
use Rattle.cops_types.specs.Histories.{Sessions, SourceStep}
use Rattle.cops_types.specs.Past.{Past}
use Rattle.cops_audit.specs.declared.sweep.Sweep.{Sweep}
use Rattle.cops_audit.specs.Sweeps.{Counted, InSome}

-- for each client that has operations in the past of an operation, how many of its first operations are in it, in order of clients
pub record IsPast (h : Sessions) (op : OpName) (counts : List (ℕ × ℕ)) : Type 0 where
  pub exact : (name : OpName) → Past h name op ↔ ((count : ℕ) × Contains counts (name.client, count) × (name.index < count))
  pub positive : (client count : ℕ) → Contains counts (client, count) → 0 < count
  pub in_order : AllPairs (λ a b. a.0 < b.0) counts

-- the sources of all that is counted are counted, except for the operations that are still to be visited
pub record IsSearching (h : Sessions) (search : Sweep) (IsOpen : OpName → Type 0) : Type 0 where
  pub clients : length search.counts ≡ length h
  pub open_counted : (name : OpName) → IsOpen name → Counted search.counts name
  pub pending_counted : (name : OpName) → InSome search.pending.items name → Counted search.counts name
  pub sources : (name put : OpName) → Counted search.counts name → SourceStep h put name → Counted search.counts put ⊎ (InSome search.pending.items name ⊎ IsOpen name)

-- more is counted, and what is new is in the past of what was counted
pub record Finds (h : Sessions) (old new : Sweep) : Type 0 where
  pub kept : (name : OpName) → Counted old.counts name → Counted new.counts name
  pub past : (name : OpName) → Counted new.counts name → Counted old.counts name ⊎ ((by : OpName) × Counted old.counts by × Past h name by)

-- the sources of an operation are counted, and what is new is in its past
pub record TakesSources (h : Sessions) (name : OpName) (old new : Sweep) : Type 0 where
  pub clients : length new.counts ≡ length old.counts
  pub kept : (n : OpName) → Counted old.counts n → Counted new.counts n
  pub past : (n : OpName) → Counted new.counts n → Counted old.counts n ⊎ Past h n name
  pub pending : (n : OpName) → Counted new.counts n → Counted old.counts n ⊎ InSome new.pending.items n
  pub still : (n : OpName) → InSome old.pending.items n → InSome new.pending.items n
  pub pending_counted : (n : OpName) → InSome new.pending.items n → InSome old.pending.items n ⊎ Counted new.counts n

-- the counts above 0 with their clients, in order of clients
pub record ListsCounts (counts : List ℕ) (pairs : List (ℕ × ℕ)) : Type 0 where
  pub members : (client count : ℕ) → Contains pairs (client, count) ↔ ((slice_index counts client ≡ count) × (0 < count))
  pub in_order : AllPairs (λ a b. a.0 < b.0) pairs
