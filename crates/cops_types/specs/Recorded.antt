-- The model of a history.
use Rattle.std.specs.Prelude.{◌≡◌, ◌⊎◌, ℕ, ◌<◌, ◌≤◌, List, [], length, slice_index_or, slice_get, Option, Some, Bool, true, false}
use Rattle.cops_types.specs.declared.limits.TheConstants.{MAX_CLIENT_OPS, MAX_CLIENTS, MAX_OPS}
use Rattle.cops_types.specs.declared.op.OpName.{OpName}
use Rattle.cops_types.specs.Histories.{Sessions, IsNamed, Operation, SourceStep, op_at}
use Rattle.cops_types.specs.Operations.{GetsVersion}
use Rattle.cops_types.specs.Counts.{count_of}
use Rattle.cops_types.specs.Lists.{number_at}

-- the sessions; for each client whether there is room for its next operation; the keys, each once, in the order of their first use; the names of the
-- puts, each at its number; the pending reads, each at its number; and for each operation its number among these, if it has one
pub record Recorded : Type 0 where
  pub sessions : Sessions
  pub room : List Bool
  pub keys : List (List ℕ)
  pub puts : List OpName
  pub gets : List Operation
  pub get_numbers : List (List (Option ℕ))

-- the limits allow no further operation of the client: 1,000,000 operations of a client, 16,000,000 of all
abbrev pub IsFull : Sessions → ℕ → Type 0
IsFull h client = (length (slice_index_or h client []) < MAX_CLIENT_OPS × count_of h < MAX_OPS) → ⊥

-- the sessions are within the limits
pub record IsWithinLimits (h : Sessions) : Type 0 where
  pub clients : length h ≤ MAX_CLIENTS
  pub each : (client : ℕ) → length (slice_index_or h client []) ≤ MAX_CLIENT_OPS
  pub all : count_of h ≤ MAX_OPS

-- there is room for the client's next operation, so that adding it allocates nothing
abbrev pub HasRoom : Recorded → ℕ → Type 0
HasRoom r client = slice_index_or r.room client false ≡ true

-- the numbers are those below the count, each number is that of one name, and in each session they rise
pub record AreNumbered (numbers : List (List (Option ℕ))) (count : ℕ) : Type 0 where
  pub within : (name : OpName) (number : ℕ) → number_at numbers name ≡ Some number → number < count
  pub each : (number : ℕ) → number < count → (name : OpName) × (number_at numbers name ≡ Some number)
  pub once : (a b : OpName) (number : ℕ) → number_at numbers a ≡ Some number → number_at numbers b ≡ Some number → a ≡ b
  pub rising : (a b : OpName) (m n : ℕ) → a.client ≡ b.client → a.index < b.index → number_at numbers a ≡ Some m → number_at numbers b ≡ Some n → m < n

-- each operation keeps its number among the pending reads, if it has one
abbrev pub KeepsPending : Recorded → Recorded → Type 0
KeepsPending old new = (name : OpName) → IsNamed old.sessions name → number_at new.get_numbers name ≡ number_at old.get_numbers name

-- the get of that name is the pending read of that number
abbrev pub IsPendingAt : Recorded → ℕ → OpName → Type 0
IsPendingAt r number got = (op : Operation) × (slice_get r.gets number ≡ Some op) × (op_at r.sessions got ≡ Some op)

-- each get that returned something is a pending read or has its source
abbrev pub ArePendingOrSourced : Recorded → Type 0
ArePendingOrSourced r = (got : OpName) (version : ℕ) → GetsVersion r.sessions got version
    → ((number : ℕ) × IsPendingAt r number got) ⊎ ((put : OpName) × SourceStep r.sessions put got)
