-- Gets and their sources in a table of puts in order of versions.
use Rattle.std.proofs.Common.{rules, ◌≡◌, ◌<◌, ◌≤◌, ℕ, List, get_or, length, ap, subst, arith}
use Rattle.cops_types.specs.declared.op.OpName.{OpName}
use Rattle.cops_types.specs.Histories.{Sessions, PutsVersion, SourceStep}
use Rattle.cops_types.specs.Operations.{GetsVersion}
use Rattle.cops_types.specs.Faults.{HasNoSource}
use Rattle.cops_types.specs.declared.versioned_put.VersionedPut.{VersionedPut}
use Rattle.cops_audit.specs.Tables.{IsVersionTable}
use Rattle.cops_audit.specs.Summaries.{Divides, StandsAt}
use Rattle.cops_audit.proofs.Places.{place_rises, inside_table, place_for, place_of_put, version_at, version_rises}

-- a get has one version
pub one_get_version : (h : Sessions) (got : OpName) (v w : ℕ) → GetsVersion h got v → GetsVersion h got w → v ≡ w
one_get_version h got v w a b = search rules

-- the source of a get is at the place of its version
pub source_at : (h : Sessions) (table : List VersionedPut) → IsVersionTable h table → (put got : OpName) (v place : ℕ) → GetsVersion h got v → place < length table
    → ((d : VersionedPut) → (get_or table place d).version ≡ v) → SourceStep h put got → StandsAt table place put v
source_at h table t put got v place gets inside at s =
    place_for h table t put v place (subst (PutsVersion h put) (one_get_version h got s.version v (s.key, s.content, s.got) gets) (s.key, s.content, s.put)) inside at

-- a get has no source where no put has its version, and the place that the search gives divides the puts by that version
pub sourceless_at : (h : Sessions) (table : List VersionedPut) (t : IsVersionTable h table) (got : OpName) (v : ℕ) → GetsVersion h got v
    → ((k : ℕ) (d : VersionedPut) → k < length table → ¬ ((get_or table k d).version ≡ v)) → (place : ℕ) → Divides table place v → (f : HasNoSource h got) × Divides table place f.version
sourceless_at h table t got v gets none place divides = (
  record {
    key = gets.0;
    content = gets.1;
    version = v;
    got = gets.2;
    none = λ put s.
        let at = place_of_put h table t.table put v (subst (PutsVersion h put) (one_get_version h got s.version v (s.key, s.content, s.got) gets) (s.key, s.content, s.put)) in
        let d : VersionedPut = record { version = v; name = put } in
        none at.0 d at.1 (ap (λ (q : VersionedPut). q.version) (at.2 d));
  },
  divides,
)

-- a put's place divides the puts by its version
pub divides_at : (h : Sessions) (table : List VersionedPut) → IsVersionTable h table → (place : ℕ) (put : OpName) (version : ℕ) → StandsAt table place put version → Divides table place version
divides_at h table t place put version at = record {
  inside = let l : place < length table = inside_table table place put version at in omega (arith, l);
  before = λ k q own at_k less. version_rises table t.rising k place q put own version at_k at less;
  from = λ k q own at_k le.
      let not : ¬ (own < version) = λ less. let l : k < place = place_rises table t.rising k place q put own version at_k at less in omega (arith, l, le) in
      omega (arith, not);
}

-- the place that a search for a version gives divides the puts by it
pub divides_found : (table : List VersionedPut) (place version : ℕ) → place ≤ length table → ((k : ℕ) (d : VersionedPut) → k < place → (get_or table k d).version < version)
    → ((k : ℕ) (d : VersionedPut) → place ≤ k → k < length table → version ≤ (get_or table k d).version) → Divides table place version
divides_found table place version le low high = record {
  inside = le;
  before = λ k put own at less. let e = version_at table k put own at in let l = low k (record { version = own; name = put }) less in omega (arith, l, e);
  from = λ k put own at le'. let e = version_at table k put own at in let l = high k (record { version = own; name = put }) le' (inside_table table k put own at) in omega (arith, l, e);
}
