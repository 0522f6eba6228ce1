-- The invariants of every world that events can reach.
use Rattle.std.specs.Prelude.{◌≡◌, ℕ, ◌≤◌, List, true, Contains, Some, slice_get, Option}
use Rattle.cops_types.specs.declared.dep.Dep.{Dep}
use Rattle.cops_types.specs.declared.put_record.PutRecord.{PutRecord}
use Rattle.cops_types.specs.declared.op.OpName.{OpName}
use Rattle.cops_types.specs.Histories.{IsNamed, IsPut, IsGot}
use Rattle.cops_types.specs.Past.{Past}
use Rattle.cops_types.specs.Recorded.{IsWithinLimits}
use Rattle.cops_types.specs.VersionOrder.{NoneDoubled}
use Rattle.cops_types.specs.Version.{clock_of}
use Rattle.cops_types.specs.Format.{most_deps, Fits}
use Rattle.cops_context.specs.Kept.{IsContext}
use Rattle.cops_store.specs.Store.{Stored}
use Rattle.cops_held.specs.Held.{Waiting}
use Rattle.cops_core.specs.Dependencies.{HasPut, Reaches, IsConsistent, IsClosed}
use Rattle.cops_core.specs.Machine.{State, context_of, view}
use Rattle.cops_core.specs.World.{Setting, home, World, node_at, context_in, Said}

-- this pair is reached from one of the context
pub record Covers (puts : List PutRecord) (context : List Dep) (pair : Dep) : Type 0 where
  pub from : Dep
  pub among : Contains context from
  pub reaches : Reaches puts from pair

-- a put in the past of one of the client's operations is settled in its data centre, and reached from its context
pub record IsCarried (s : State) (dc client : ℕ) (pair : Dep) : Type 0 where
  pub settled : HasPut (s.settled dc) pair
  pub covered : Covers s.issued (context_of s client) pair

-- an issued put has this key, content and version
abbrev pub IsIssued : World → List ℕ → Option (List ℕ) → ℕ → Type 0
IsIssued w key content version = (p : PutRecord) × Contains w.issued p × (p.key ≡ key) × (p.value ≡ content) × (p.version ≡ version)

pub record Invariants (s : Setting) (w : World) : Type 0 where
  -- the set of puts that a data centre has settled is closed under dependencies
  pub closed : (dc : ℕ) → IsClosed ((view w).settled dc)
  -- a Yes answer, and a mark, is for a settled pair
  pub said : (y : Said) → Contains w.said y → HasPut ((view w).settled y.dc) y.pair
  pub marked : (dc place : ℕ) (h : Waiting) (i : ℕ) (d : Dep) → Contains (node_at w dc place).held h → slice_get h.marks i ≡ Some true → slice_get h.put.deps i ≡ Some d → HasPut ((view w).settled dc) d
  -- every put in the past of a client's operation is settled in the client's data centre, and reached from its context
  pub carried : (a b : OpName) (key : List ℕ) (content : Option (List ℕ)) (version : ℕ) → IsPut w.sessions a key content version → IsNamed w.sessions b → Past w.sessions a b → IsCarried (view w) (home s b.client) b.client (record { key = key; version = version })
  -- versions identify puts and are above those of dependencies, and no clock is behind what was settled
  pub consistent : IsConsistent w.issued
  pub clocks : (dc place : ℕ) (t : Stored) → Contains (node_at w dc place).settled t → clock_of t.version ≤ (node_at w dc place).clock
  -- held and settled puts were issued, each issued put is that of one operation, and each put and get is of an issued put
  pub held : (dc place : ℕ) (h : Waiting) → Contains (node_at w dc place).held h → Contains w.issued h.put
  pub settled : (dc place : ℕ) (t : Stored) → Contains (node_at w dc place).settled t → IsIssued w t.key t.value t.version
  pub issued : (p : PutRecord) → Contains w.issued p → (n : OpName) × IsPut w.sessions n p.key p.value p.version
  pub once : NoneDoubled w.sessions
  pub wrote : (n : OpName) (key : List ℕ) (content : Option (List ℕ)) (version : ℕ) → IsPut w.sessions n key content version → IsIssued w key content version
  pub got : (n : OpName) (key : List ℕ) (content : Option (List ℕ)) (version : ℕ) → IsGot w.sessions n key content version → IsIssued w key content version
  -- contexts and contents are of the format, and sessions are within their limits
  pub contexts : (client : ℕ) → IsContext (most_deps s.format) (context_in w client)
  pub fits : (p : PutRecord) → Contains w.issued p → Fits s.format p.value
  pub limits : IsWithinLimits w.sessions
