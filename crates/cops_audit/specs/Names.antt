-- The names of a history's operations, in their order: session by session.
use Rattle.std.specs.Prelude.{◌+◌, ◌↔◌, ℕ, List, [], ◌∷◌, ◌++◌, Contains, AllPairs, drop, slice_index_or, take}
use Rattle.cops_types.specs.declared.op.OpName.{OpName}
use Rattle.cops_types.specs.Histories.{Operation, Sessions}
use Rattle.cops_types.specs.Faults.{IsBefore, IsNotAbove, IsStale}
use Rattle.cops_audit.specs.declared.names.Names.{Names}
use Rattle.cops_audit.specs.declared.verdict.NotAbove.{NotAbove}
use Rattle.cops_audit.specs.declared.verdict.Stale.{Stale}

-- the names of a client's operations, of which the first has this index
abbrev pub session_names : ℕ → ℕ → List Operation → List OpName
session_names client index [] = []
session_names client index (op ∷ ops) = record { client = client; index = index } ∷ session_names client (index + 1) ops

-- the names of the operations of sessions, of which the first is this client's
abbrev pub names_from : ℕ → Sessions → List OpName
names_from client [] = []
names_from client (session ∷ sessions) = session_names client 0 session ++ names_from (client + 1) sessions

-- all names of a history
abbrev pub names_of : Sessions → List OpName
names_of h = names_from 0 h

-- the names from a client's operation on
abbrev pub names_after : Sessions → ℕ → ℕ → List OpName
names_after h client index = session_names client index (drop index (slice_index_or h client [])) ++ names_from (client + 1) (drop (client + 1) h)

-- the names from where an iterator is on, and those that it has still to give
abbrev pub names_on : Names → List OpName
names_on names = names_after names.history.now.sessions names.client names.index

abbrev pub names_left : Names → List OpName
names_left names = take names.left (names_on names)

-- exactly the faults whose names are among these, in order of names
pub record ListsAmong {A : Type 0} (name_of : A → OpName) (IsFault : A → Type 0) (names : List OpName) (faults : List A) : Type 0 where
  pub members : (x : A) → Contains faults x ↔ (IsFault x × Contains names (name_of x))
  pub in_order : AllPairs (λ x y. IsBefore (name_of x) (name_of y)) faults

-- exactly the puts among these names that are not above what their sessions saw, each with the first earlier operation whose version is not below
-- its own, in order of names
abbrev pub ListsNotAbove : Sessions → List OpName → List NotAbove → Type 0
ListsNotAbove h = ListsAmong (λ f. f.op) (λ f. IsNotAbove h f.op f.earlier)

-- exactly the stale gets among these names, each with the newest put on its key in its past, in order of names
abbrev pub ListsStale : Sessions → List OpName → List Stale → Type 0
ListsStale h = ListsAmong (λ f. f.op) (λ f. IsStale h f.op f.newer)
