-- The puts on each key, by their places in the table of puts in order of versions.
use Rattle.std.specs.Prelude.{◌≡◌, ◌<◌, ◌≤◌, ℕ, List, length, slice_get, slice_index_or, Option, Some, None}
use Rattle.std.specs.Option.{option_map}
use Rattle.cops_types.specs.declared.op.OpName.{OpName}
use Rattle.cops_types.specs.Histories.{Sessions, PutsKey, op_at}
use Rattle.cops_types.specs.Operations.{key_of}
use Rattle.cops_types.specs.Recorded.{Recorded}
use Rattle.cops_types.specs.declared.versioned_put.VersionedPut.{VersionedPut}
use Rattle.cops_audit.specs.Summaries.{StandsAt}

-- the put at this place is on this key
abbrev pub OnKey : Sessions → List VersionedPut → ℕ → List ℕ → Type 0
OnKey h table place key = (put : OpName) × (version : ℕ) × StandsAt table place put version × PutsKey h put key version

-- the first place on a key
pub record IsFirstOn (h : Sessions) (table : List VersionedPut) (key : List ℕ) (first : ℕ) : Type 0 where
  pub on_key : OnKey h table first key
  pub least : (place : ℕ) → OnKey h table place key → first ≤ place

-- the first place on a key among those from i on
abbrev pub IsFirstFrom : Sessions → List VersionedPut → ℕ → List ℕ → Option ℕ → Type 0
IsFirstFrom h table i key None = (place : ℕ) → i ≤ place → ¬ OnKey h table place key
IsFirstFrom h table i key (Some first) = (i ≤ first) × OnKey h table first key × ((place : ℕ) → i ≤ place → OnKey h table place key → first ≤ place)

-- the operation of that name is on the key
abbrev pub IsOnKey : Sessions → OpName → List ℕ → Type 0
IsOnKey h name key = option_map key_of (op_at h name) ≡ Some key

-- the number of the key of each put
pub record AreKeys (r : Recorded) (table : List VersionedPut) (numbers : List ℕ) : Type 0 where
  pub whole : length numbers ≡ length table
  pub each : (place number : ℕ) (key : List ℕ) → slice_get numbers place ≡ Some number → OnKey r.sessions table place key → slice_get r.keys number ≡ Some key

-- the first put on each key, at the key's number
abbrev pub KnowsFirsts : Recorded → List VersionedPut → List (Option ℕ) → Type 0
KnowsFirsts r table firsts = (number : ℕ) (key : List ℕ) → slice_get r.keys number ≡ Some key → IsFirstFrom r.sessions table 0 key (slice_index_or firsts number None)

-- the first put on the key of an operation, if there is one, in any table of which the first puts are these
abbrev pub IsFirstOnItsKey : Recorded → List (Option ℕ) → OpName → Option ℕ → Type 0
IsFirstOnItsKey r firsts name found = (table : List VersionedPut) (key : List ℕ) → KnowsFirsts r table firsts → IsOnKey r.sessions name key → IsFirstFrom r.sessions table 0 key found

-- no later put is on the key of the put at this place, or this one is the next
abbrev pub IsNext : Sessions → List VersionedPut → ℕ → Option ℕ → Type 0
IsNext h table place None = (key : List ℕ) → OnKey h table place key → (later : ℕ) → place < later → ¬ OnKey h table later key
IsNext h table place (Some next) = (place < next) × ((key : List ℕ) → OnKey h table place key → OnKey h table next key × ((later : ℕ) → place < later → OnKey h table later key → next ≤ later))

-- the place of the next put on its key, or a number past the end where there is none
abbrev pub LinksTo : Sessions → List VersionedPut → ℕ → ℕ → Type 0
LinksTo h table place next = (next < length table → IsNext h table place (Some next)) × (length table ≤ next → IsNext h table place None)

-- the next put on the key of each put
pub record AreNexts (h : Sessions) (table : List VersionedPut) (nexts : List ℕ) : Type 0 where
  pub whole : length nexts ≡ length table
  pub each : (place next : ℕ) → slice_get nexts place ≡ Some next → LinksTo h table place next

-- the first put on the key of each put
pub record AreFirsts (h : Sessions) (table : List VersionedPut) (firsts : List ℕ) : Type 0 where
  pub whole : length firsts ≡ length table
  pub each : (place first : ℕ) (key : List ℕ) → slice_get firsts place ≡ Some first → OnKey h table place key → IsFirstOn h table key first
