-- Where puts, and the sources of pending reads, are in the table, by their numbers.
use Rattle.std.specs.Prelude.{◌≡◌, ◌<◌, ℕ, List, length, slice_get, Option, Some, true}
use Rattle.cops_types.specs.declared.op.OpName.{OpName}
use Rattle.cops_types.specs.declared.versioned_put.VersionedPut.{VersionedPut}
use Rattle.cops_types.specs.Histories.{Sessions, IsPut, Operation, read}
use Rattle.cops_types.specs.Recorded.{Recorded}
use Rattle.cops_types.specs.Verdicts.{AllHaveSources}
use Rattle.cops_audit.specs.declared.sources.Sources.{Sources}
use Rattle.cops_audit.specs.Summaries.{StandsAt}

-- the place of each put is at its number, and each place of the table is listed
pub record ArePutPlaces (puts : List OpName) (table : List VersionedPut) (places : List ℕ) : Type 0 where
  pub report : (k number : ℕ) (put : OpName) (version : ℕ) → StandsAt table k put version → slice_get puts number ≡ Some put → slice_get places number ≡ Some k
  pub all : (k : ℕ) → k < length table → (number : ℕ) × (slice_get places number ≡ Some k)

-- the put at this place has what the get returned
abbrev pub IsSourcePlace : Sessions → List VersionedPut → Operation → ℕ → Type 0
IsSourcePlace h table op place = (put : OpName) × (key : List ℕ) × (content : Option (List ℕ)) × (version : ℕ) × StandsAt table place put version × IsPut h put key content version × (op ≡ read key content version)

-- the places of the sources of pending reads, each at the get's number
abbrev pub AreSourcePlaces : Recorded → List VersionedPut → List ℕ → Type 0
AreSourcePlaces r table places = (number place : ℕ) (op : Operation) → slice_get r.gets number ≡ Some op → slice_get places number ≡ Some place → IsSourcePlace r.sessions table op place

-- those places, and each get has its source where the flag says so
pub record AreSources (r : Recorded) (table : List VersionedPut) (sources : Sources) : Type 0 where
  pub places : AreSourcePlaces r table sources.places.items
  pub all : sources.are_all ≡ true → AllHaveSources r.sessions
