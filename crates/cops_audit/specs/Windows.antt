-- Gets that may be stale.
use Rattle.std.specs.Prelude.{◌≡◌, ◌<◌, ◌≤◌, ◌⊎◌, ℕ, List, Option, Contains, AllPairs, length, slice_index_or}
use Rattle.cops_types.specs.declared.op.OpName.{OpName}
use Rattle.cops_types.specs.Histories.{Sessions, IsGot, IsMissed, IsNamed, PutsKey, SourceStep}
use Rattle.cops_types.specs.Faults.{IsBefore, IsNewer}
use Rattle.cops_types.specs.declared.versioned_put.VersionedPut.{VersionedPut}
use Rattle.cops_audit.specs.declared.window.Suspect.{Suspect}
use Rattle.cops_audit.specs.Keys.{IsFirstOn, OnKey}
use Rattle.cops_audit.specs.Summaries.{StandsAt}

-- a put of this version on the key, which is newer than what was returned if it is in the past
abbrev pub WouldBeNewer : Sessions → OpName → OpName → ℕ → Type 0
WouldBeNewer h name newer version = (key : List ℕ) × PutsKey h newer key version
    × (((content : Option (List ℕ)) × (old : ℕ) × IsGot h name key content old × (old < version)) ⊎ IsMissed h name key)

-- this is the first place on the key of the put at this place
abbrev pub HasFirst : Sessions → List VersionedPut → ℕ → ℕ → Type 0
HasFirst h table place first = (key : List ℕ) → OnKey h table place key → IsFirstOn h table key first

-- the puts that would be newer are those on its key from a place on, and its own source is before them
pub record IsSuspect (h : Sessions) (table : List VersionedPut) (suspect : Suspect) : Type 0 where
  pub named : IsNamed h suspect.op
  pub later : (place : ℕ) (put : OpName) (version : ℕ) → StandsAt table place put version → WouldBeNewer h suspect.op put version → (suspect.from ≤ place) × HasFirst h table place suspect.first
  pub newer : (place : ℕ) (put : OpName) (version : ℕ) → StandsAt table place put version → suspect.from ≤ place → HasFirst h table place suspect.first → WouldBeNewer h suspect.op put version
  pub source : (place : ℕ) (put : OpName) (version : ℕ) → StandsAt table place put version → SourceStep h put suspect.op → place < suspect.from

-- no put in its past is newer than what it returned
abbrev pub NoneNewer : Sessions → OpName → Type 0
NoneNewer h name = (newer : OpName) (version : ℕ) → ¬ IsNewer h name newer version

-- no put that would be newer is below the mark
abbrev pub NoneWithin : Sessions → List VersionedPut → OpName → ℕ → Type 0
NoneWithin h table name mark = (place : ℕ) (put : OpName) (version : ℕ) → StandsAt table place put version → WouldBeNewer h name put version → mark ≤ place

-- the suspects among these names, in order of names: none of the other names has a newer put in its past
pub record AreSuspects (h : Sessions) (table : List VersionedPut) (names : List OpName) (suspects : List Suspect) : Type 0 where
  pub each : (s : Suspect) → Contains suspects s → IsSuspect h table s × Contains names s.op
  pub others : (name newer : OpName) (version : ℕ) → Contains names name → IsNewer h name newer version → (s : Suspect) × (s.op ≡ name) × Contains suspects s
  pub in_order : AllPairs (λ s t. IsBefore s.op t.op) suspects

-- no suspect has a put in its past that is newer than what it returned
abbrev pub NoneNewerAmong : Sessions → List Suspect → Type 0
NoneNewerAmong h suspects = (k : ℕ) (d : Suspect) → k < length suspects → NoneNewer h (slice_index_or suspects k d).op

-- gets that may be stale, in order of names
pub record AreSuspectsInOrder (h : Sessions) (table : List VersionedPut) (suspects : List Suspect) : Type 0 where
  pub each : (k : ℕ) (d : Suspect) → k < length suspects → IsSuspect h table (slice_index_or suspects k d)
  pub in_order : AllPairs (λ s t. IsBefore s.op t.op) suspects
