-- The store as its clients see it (COPS, section 3): one set of puts in each data centre, and no nodes, no clocks and no messages.
use Rattle.std.specs.Prelude.{◌≡◌, ◌≢◌, ℕ, ◌<◌, ◌≤◌, ◌↔◌, ◌⊎◌, List, [], ◌∷◌, ◌++◌, length, filter, Contains, slice_index_or, slice_set}
use Rattle.cops_types.specs.declared.dep.Dep.{Dep}
use Rattle.cops_types.specs.declared.put_record.PutRecord.{PutRecord}
use Rattle.cops_types.specs.Histories.{Sessions, with_op, Operation, write, read, missed}
use Rattle.cops_context.specs.Context.{with_pair}
use Rattle.cops_store.specs.Store.{has_pair}
use Rattle.cops_node.specs.Node.{put_pair}
use Rattle.cops_core.specs.World.{World, settled_in}

pub record State : Type 0 where
  pub issued : List PutRecord
  pub settled : ℕ → List PutRecord  -- in each data centre
  pub contexts : List (List Dep)  -- of each client
  pub sessions : Sessions

abbrev pub session : Sessions → ℕ → List Operation
session h client = slice_index_or h client []

abbrev pub context_of : State → ℕ → List Dep
context_of s client = slice_index_or s.contexts client []

-- lists of puts compared as sets: equal, or with one more put
abbrev pub Same : List PutRecord → List PutRecord → Type 0
Same old new = (p : PutRecord) → Contains new p ↔ Contains old p

abbrev pub Gains : List PutRecord → List PutRecord → PutRecord → Type 0
Gains old new put = (p : PutRecord) → Contains new p ↔ (Contains old p ⊎ (put ≡ p))

-- one data centre settles a put, and no other changes
pub record SettlesAt (old new : State) (dc : ℕ) (put : PutRecord) : Type 0 where
  pub here : Gains (old.settled dc) (new.settled dc) put
  pub others : (d : ℕ) → d ≢ dc → Same (old.settled d) (new.settled d)

-- a client's session gains an operation, and its context is this one
pub record Answers (old new : State) (client : ℕ) (op : Operation) (context : List Dep) : Type 0 where
  pub has_session : client < length old.sessions
  pub has_context : client < length old.contexts
  pub sessions : new.sessions ≡ with_op old.sessions client op
  pub contexts : new.contexts ≡ slice_set old.contexts client context

-- a client of data centre dc puts; without content that is a deletion. The put depends on the client's context, and its version is new and greater
-- than those of all its dependencies
pub record Puts (old new : State) (dc client : ℕ) (put : PutRecord) : Type 0 where
  pub deps : put.deps ≡ context_of old client
  pub above : (d : Dep) → Contains put.deps d → d.version < put.version
  pub fresh : (p : PutRecord) → Contains old.issued p → p.version ≢ put.version
  pub issued : new.issued ≡ old.issued ++ put ∷ []
  pub settled : SettlesAt old new dc put
  pub answers : Answers old new client (write put.key put.value put.version) (put_pair put ∷ [])

-- a client of data centre dc gets the put with the greatest version there
pub record Gets (old new : State) (dc client : ℕ) (put : PutRecord) : Type 0 where
  pub shown : Contains (old.settled dc) put
  pub greatest : (p : PutRecord) → Contains (old.settled dc) p → p.key ≡ put.key → p.version ≤ put.version
  pub issued : new.issued ≡ old.issued
  pub settled : new.settled ≡ old.settled
  pub answers : Answers old new client (read put.key put.value put.version) (with_pair (context_of old client) (put_pair put))

-- a client of data centre dc gets a key that no put there has
pub record Misses (old new : State) (dc client : ℕ) (key : List ℕ) : Type 0 where
  pub none : (p : PutRecord) → Contains (old.settled dc) p → p.key ≢ key
  pub issued : new.issued ≡ old.issued
  pub settled : new.settled ≡ old.settled
  pub answers : Answers old new client (missed key) (context_of old client)

-- a data centre settles a put whose dependencies it has settled
pub record Settles (old new : State) (dc : ℕ) (put : PutRecord) : Type 0 where
  pub offered : Contains old.issued put
  pub deps : (d : Dep) → Contains put.deps d → (p : PutRecord) × (Contains (old.settled dc) p × (put_pair p ≡ d))
  pub issued : new.issued ≡ old.issued
  pub settled : SettlesAt old new dc put
  pub contexts : new.contexts ≡ old.contexts
  pub sessions : new.sessions ≡ old.sessions

-- nothing changes
pub record Stays (old new : State) : Type 0 where
  pub issued : new.issued ≡ old.issued
  pub settled : (d : ℕ) → Same (old.settled d) (new.settled d)
  pub contexts : new.contexts ≡ old.contexts
  pub sessions : new.sessions ≡ old.sessions

-- a step of the machine; home: the data centre of each client
abbrev pub Step : (ℕ → ℕ) → State → State → Type 0
Step home old new =
    ((client : ℕ) × (put : PutRecord) × Puts old new (home client) client put)
    ⊎ ((client : ℕ) × (put : PutRecord) × Gets old new (home client) client put)
    ⊎ ((client : ℕ) × (key : List ℕ) × Misses old new (home client) client key)
    ⊎ ((dc : ℕ) × (put : PutRecord) × Settles old new dc put)
    ⊎ Stays old new

-- the world as one set of puts in each data centre
abbrev pub view : World → State
view w = record {
  issued = w.issued;
  settled = λ dc. filter (λ p. has_pair (settled_in w dc) (put_pair p)) w.issued;
  contexts = w.contexts;
  sessions = w.sessions;
}
