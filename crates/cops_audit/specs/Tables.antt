-- The puts by their versions.
use Rattle.std.specs.Prelude.{◌≡◌, ◌≢◌, ◌<◌, ◌≤◌, ◌+◌, ◌↔◌, ◌⊎◌, ℕ, List, Bool, Some, true, false, length, slice_get, slice_index_or, Contains, AllPairs}
use Rattle.cops_types.specs.declared.limits.TheConstants.{MAX_OPS}
use Rattle.cops_types.specs.Histories.{Sessions, PutsVersion}
use Rattle.cops_types.specs.VersionOrder.{IsDoubled}
use Rattle.cops_types.specs.declared.op.OpName.{OpName}
use Rattle.cops_types.specs.Recorded.{Recorded}
use Rattle.cops_types.specs.declared.versioned_put.VersionedPut.{VersionedPut}

-- in order of versions, perhaps with duplicates
abbrev pub VersionsNeverFall : List VersionedPut → Type 0
VersionsNeverFall puts = AllPairs (λ p q. p.version ≤ q.version) puts

-- in order of versions, without duplicates
abbrev pub Rises : List VersionedPut → Type 0
Rises puts = AllPairs (λ p q. p.version < q.version) puts

-- a put has no later version than the one before it
abbrev pub Repeats : List VersionedPut → Type 0
Repeats puts = (k : ℕ) × (k + 1 < length puts) × ((d : VersionedPut) → (slice_index_or puts (k + 1) d).version ≤ (slice_index_or puts k d).version)

-- the put at this place has this version
abbrev pub IsPlaceOf : List VersionedPut → ℕ → ℕ → Type 0
IsPlaceOf puts version place = (d : VersionedPut) → (slice_index_or puts place d).version ≡ version

-- no put has this version
abbrev pub HasNone : List VersionedPut → ℕ → Type 0
HasNone puts version = (k : ℕ) (d : VersionedPut) → k < length puts → (slice_index_or puts k d).version ≢ version

-- the put before or after this place has the same version
abbrev pub HasEqualNeighbour : List VersionedPut → ℕ → Type 0
HasEqualNeighbour puts place =
    (k : ℕ) × (k < length puts) × ((k + 1 ≡ place) ⊎ (place + 1 ≡ k)) × ((d : VersionedPut) → (slice_index_or puts k d).version ≡ (slice_index_or puts place d).version)

-- all puts with their versions, each once, in order of versions
pub record IsPutTable (h : Sessions) (puts : List VersionedPut) : Type 0 where
  pub members : (p : VersionedPut) → Contains puts p ↔ PutsVersion h p.name p.version
  pub once : AllPairs (λ p q. p.name ≢ q.name) puts
  pub in_order : VersionsNeverFall puts
  pub few : length puts ≤ MAX_OPS

-- all puts with their versions, in order of versions, without duplicate versions
pub record IsVersionTable (h : Sessions) (puts : List VersionedPut) : Type 0 where
  pub table : IsPutTable h puts
  pub rising : Rises puts

-- exactly the puts that have the version of another put, in order of versions
pub record AreDoubledPuts (h : Sessions) (puts : List VersionedPut) : Type 0 where
  pub members : (p : VersionedPut) → Contains puts p ↔ (PutsVersion h p.name p.version × IsDoubled h p.name)
  pub in_order : VersionsNeverFall puts

-- for each put, at its number, whether another put has its version
pub record ReportDoubled (r : Recorded) (doubled : List Bool) : Type 0 where
  pub whole : length doubled ≡ length r.puts
  pub each : (number : ℕ) (put : OpName) → slice_get r.puts number ≡ Some put → (slice_index_or doubled number false ≡ true) ↔ IsDoubled r.sessions put
