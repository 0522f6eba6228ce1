-- Histories, the names of operations, and the steps from one operation to another.
use Rattle.std.specs.Prelude.{◌≡◌, ◌<◌, ℕ, List, [], ◌∷◌, ◌++◌, Option, Some, slice_get, slice_index_or, slice_set}
use Rattle.cops_types.specs.declared.op.OpName.{OpName}

-- An operation of a client, and its result, whichever requests it made: a put of this content, with its version; a get that returned this content and
-- version; or a get that found nothing. A put without content is a deletion, and a get without content found one.
pub data Operation : Type 0 where
  write : List ℕ → Option (List ℕ) → ℕ → Operation
  read : List ℕ → Option (List ℕ) → ℕ → Operation
  missed : List ℕ → Operation

-- the operations of each client, in their order
abbrev pub Sessions : Type 0
Sessions = List (List Operation)

-- the operation of that name, if there is one
abbrev pub op_at : Sessions → OpName → Option Operation
op_at h name = slice_get (slice_index_or h name.client []) name.index

-- the client's session with one more operation
abbrev pub with_op : Sessions → ℕ → Operation → Sessions
with_op h client op = slice_set h client (slice_index_or h client [] ++ op ∷ [])

-- an operation has that name
abbrev pub IsNamed : Sessions → OpName → Type 0
IsNamed h name = (op : Operation) × (op_at h name ≡ Some op)

abbrev pub IsPut : Sessions → OpName → List ℕ → Option (List ℕ) → ℕ → Type 0
IsPut h name key content version = op_at h name ≡ Some (write key content version)

abbrev pub IsGot : Sessions → OpName → List ℕ → Option (List ℕ) → ℕ → Type 0
IsGot h name key content version = op_at h name ≡ Some (read key content version)

abbrev pub IsMissed : Sessions → OpName → List ℕ → Type 0
IsMissed h name key = op_at h name ≡ Some (missed key)

-- the operation is a put with this version
abbrev pub PutsVersion : Sessions → OpName → ℕ → Type 0
PutsVersion h name version = (key : List ℕ) × (content : Option (List ℕ)) × IsPut h name key content version

-- the operation is a put on this key, with this version
abbrev pub PutsKey : Sessions → OpName → List ℕ → ℕ → Type 0
PutsKey h name key version = (content : Option (List ℕ)) × IsPut h name key content version

-- the operation is a put
abbrev pub Puts : Sessions → OpName → Type 0
Puts h name = (version : ℕ) × PutsVersion h name version

-- from an operation to a later one of its session
pub record SessionStep (h : Sessions) (from to : OpName) : Type 0 where
  pub same_client : from.client ≡ to.client
  pub earlier : from.index < to.index
  pub is_there : IsNamed h to

-- from a put to a get that returned its key, content and version
pub record SourceStep (h : Sessions) (from to : OpName) : Type 0 where
  pub key : List ℕ
  pub content : Option (List ℕ)
  pub version : ℕ
  pub put : IsPut h from key content version
  pub got : IsGot h to key content version
