-- The maxima of sessions: the greatest version that each has put or got.
use Rattle.std.specs.Prelude.{◌≡◌, ◌<◌, ◌≤◌, ◌⊎◌, ℕ, List, [], length, slice_index_or, true, false}
use Rattle.cops_types.specs.declared.op.OpName.{OpName}
use Rattle.cops_types.specs.declared.entry.StoredOp.{StoredOp}
use Rattle.cops_types.specs.declared.maxima.Maxima.{Maxima}
use Rattle.cops_types.specs.Entries.{EntryLists, reported}
use Rattle.cops_types.specs.Histories.{Sessions, Operation, with_op}
use Rattle.cops_types.specs.Faults.{HasVersion, IsNotAbove}
use Rattle.cops_types.specs.Verdicts.{AllAbove}

-- the maximum of a session after its first `count` operations: the greatest version among them, or 0 if they have none
pub record IsMaximum (h : Sessions) (client count maximum : ℕ) : Type 0 where
  pub bounds : (i version : ℕ) → i < count → HasVersion h (record { client = client; index = i }) version → version ≤ maximum
  pub reached : (maximum ≡ 0) ⊎ ((i : ℕ) × (i < count) × HasVersion h (record { client = client; index = i }) maximum)

-- each put of a client's session has a greater version than all that the session put or got before it
abbrev pub IsSessionAbove : Sessions → ℕ → Type 0
IsSessionAbove h client = (name earlier : OpName) → name.client ≡ client → ¬ IsNotAbove h name earlier

-- some put of the session does not
abbrev pub HasNotAbove : Sessions → ℕ → Type 0
HasNotAbove h client = (name : OpName) × (earlier : OpName) × (name.client ≡ client) × IsNotAbove h name earlier

-- the maximum of each session, and whether each of its puts is above what it saw before; and whether each put of all sessions is
pub record AreSessionMaxima (h : Sessions) (maxima : Maxima) : Type 0 where
  pub clients : length maxima.sessions.items ≡ length h
  pub each : (client : ℕ) → client < length h → IsMaximum h client (length (slice_index_or h client [])) (slice_index_or maxima.sessions.items client 0)
  pub flags : length maxima.rise.items ≡ length h
  pub session_above : (client : ℕ) → slice_index_or maxima.rise.items client false ≡ true → IsSessionAbove h client
  pub session_not_above : (client : ℕ) → client < length h → slice_index_or maxima.rise.items client false ≡ false → HasNotAbove h client
  pub above : maxima.are_above ≡ true → AllAbove h
  pub not_above : maxima.are_above ≡ false → (name : OpName) × (earlier : OpName) × IsNotAbove h name earlier

-- if the entry stands for a client's next operation, it turns the maxima of a history into those with the operation
abbrev pub TakesEntry : ℕ → StoredOp → Maxima → Maxima → Type 0
TakesEntry client entry old new = (keys : List (List ℕ)) (all : EntryLists) (h : Sessions) (op : Operation) → reported keys all entry ≡ op
    → AreSessionMaxima h old → AreSessionMaxima (with_op h client op) new
