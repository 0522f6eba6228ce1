-- Versions in a table of puts, by their places.
use Rattle.std.proofs.Common.{rules, ◌≡◌, ◌≢◌, ◌<◌, ◌≤◌, ◌+◌, ◌-◌, ◌⊎◌, ℕ, zero, suc, List, get_or, length, Some, refl, sym, ◌∙◌, ap, subst, inl, inr, arith}
use native.Mathlib.Numerals.{unary_clauses}
use Rattle.std.specs.List.Sorted.{IsNonDecreasingBy}
use Rattle.std.proofs.Math.Nat.{eq-or-lt_of_le}
use Rattle.std.proofs.lemmas.Bool.{cases_lt, cases_order}
use Rattle.std.proofs.lemmas.Bool.Decides.{eqb_tells}
use Rattle.cops_types.specs.declared.op.OpName.{OpName}
use Rattle.cops_types.specs.Histories.{Sessions, PutsVersion}
use Rattle.cops_types.specs.VersionOrder.{IsDoubled}
use Rattle.cops_types.specs.declared.versioned_put.VersionedPut.{VersionedPut}
use Rattle.cops_audit.specs.Tables.{IsPutTable, IsVersionTable, Rises, VersionsNeverFall}
use Rattle.cops_audit.proofs.Acyclic.{one_version}
use Rattle.cops_audit.specs.Summaries.{StandsAt}
use Rattle.cops_audit.proofs.Collect.{get_or-default}
use Rattle.cops_audit.proofs.Differing.{name_cases}
use Rattle.cops_audit.proofs.Emptiness.{at_index}
use Rattle.cops_audit.proofs.Unique.{stands}

-- each put is below the next, and so below each later one
pub rises_by_neighbours : (table : List VersionedPut) → ((k : ℕ) (d : VersionedPut) → k + 1 < length table → (get_or table k d).version < (get_or table (k + 1) d).version) → Rises table
rises_by_neighbours table next i zero d less inside = absurd (omega (arith, less))
rises_by_neighbours table next i (suc j) d less inside =
    let last' : (get_or table j d).version < (get_or table (suc j) d).version = simp unary_clauses at (next j d (omega (arith, inside))) in
    elim (eq-or-lt_of_le (let le : i ≤ j = omega (arith, less) in le)) [
      | inl same ↦ let e : (get_or table i d).version ≡ (get_or table j d).version = ap (λ k. (get_or table k d).version) same in omega (arith, e, last')
      | inr before ↦ let first = rises_by_neighbours table next i j d before (omega (arith, inside)) in omega (arith, first, last')
    ]

-- a put of a version has a place
pub place_of_put : (h : Sessions) (table : List VersionedPut) → IsPutTable h table → (p : OpName) (v : ℕ) → PutsVersion h p v
    → (k : ℕ) × (k < length table) × ((d : VersionedPut) → get_or table k d ≡ (let q : VersionedPut = record { version = v; name = p } in q))
place_of_put h table t p v put =
    let q : VersionedPut = record { version = v; name = p } in
    let at = (t.members q).1 put in
    (at.0, at.1, λ d. get_or-default table at.0 d q at.1 ∙ at.2)

-- the put at a place
pub put_at : (h : Sessions) (table : List VersionedPut) → IsPutTable h table → (k : ℕ) (d : VersionedPut) → k < length table → PutsVersion h (get_or table k d).name (get_or table k d).version
put_at h table t k d inside = (t.members (get_or table k d)).0 (k, inside, get_or-default table k (get_or table k d) d inside)

-- where two places have one version, each put of that version is doubled
doubled_at : (h : Sessions) (table : List VersionedPut) → IsPutTable h table → (name : OpName) (v : ℕ) → PutsVersion h name v → (a b : ℕ) (d : VersionedPut) → a < b → b < length table
    → (get_or table a d).version ≡ v → (get_or table b d).version ≡ v → IsDoubled h name
doubled_at h table t name v put a b d less inside va vb = elim (name_cases (get_or table a d).name name) [
  | inl same ↦ doubled b inside vb (λ e. t.once a b d less inside (same ∙ sym e))
  | inr other ↦ doubled a (omega (arith, less, inside)) va other
]
  where
    doubled : (k : ℕ) → k < length table → (get_or table k d).version ≡ v → (get_or table k d).name ≢ name → IsDoubled h name
    doubled k in_k own differs = record {
      version = v;
      put = put;
      other = (get_or table k d).name;
      other_put = subst (PutsVersion h (get_or table k d).name) own (put_at h table t k d in_k);
      differs = differs;
    }

-- two neighbouring places with one version, in either order
pub doubled_by_neighbour : (h : Sessions) (table : List VersionedPut) → IsPutTable h table → (name : OpName) (v : ℕ) → PutsVersion h name v → (k place : ℕ) → k < length table → place < length table
    → ((k + 1 ≡ place) ⊎ (place + 1 ≡ k)) → ((d : VersionedPut) → (get_or table place d).version ≡ v) → ((d : VersionedPut) → (get_or table k d).version ≡ (get_or table place d).version) → IsDoubled h name
doubled_by_neighbour h table t name v put k place in_k in_place (inl e) at same =
    let d : VersionedPut = record { version = v; name = name } in
    doubled_at h table t name v put k place d (omega (arith, e)) in_place (same d ∙ at d) (at d)
doubled_by_neighbour h table t name v put k place in_k in_place (inr e) at same =
    let d : VersionedPut = record { version = v; name = name } in
    doubled_at h table t name v put place k d (omega (arith, e)) in_k (at d) (same d ∙ at d)

pub never_falls : (table : List VersionedPut) → VersionsNeverFall table → IsNonDecreasingBy (λ (p : VersionedPut). p.version) table
never_falls table in_order i j d le inside = search rules

-- a neighbouring place has the version of a place
abbrev pub Beside : List VersionedPut → ℕ → Type 0
Beside table place = (k : ℕ) × (k < length table) × ((k + 1 ≡ place) ⊎ (place + 1 ≡ k)) × ((d : VersionedPut) → (get_or table k d).version ≡ (get_or table place d).version)

-- the version of a doubled put is at neighbouring places
pub neighbour_of_doubled : (h : Sessions) (table : List VersionedPut) → IsPutTable h table → (name : OpName) (v place : ℕ) → place < length table → ((d : VersionedPut) → (get_or table place d).version ≡ v)
    → PutsVersion h name v → IsDoubled h name → Beside table place
neighbour_of_doubled h table t name v place inside at put f =
    let same : f.version ≡ v = one_version h name name f.version v f.put put refl in
    let a = place_of_put h table t name v put in
    let b = place_of_put h table t f.other v (subst (PutsVersion h f.other) same f.other_put) in
    let apart : a.0 ≢ b.0 = λ e. f.differs (ap (λ (q : VersionedPut). q.name) (sym (b.2 (record { version = v; name = name })) ∙ ap (λ j. get_or table j (record { version = v; name = name })) (sym e) ∙ a.2 (record { version = v; name = name }))) in
    elim (eqb_tells a.0 place) [
      | inl p ↦ has_neighbour b.0 b.1 (λ d. ap (λ (q : VersionedPut). q.version) (b.2 d)) (λ e. apart (p.1 ∙ sym e))
      | inr p ↦ has_neighbour a.0 a.1 (λ d. ap (λ (q : VersionedPut). q.version) (a.2 d)) p.1
    ]
  where
    -- all places between two places of one version have it too
    between : (i j k : ℕ) (d : VersionedPut) → i ≤ k → k ≤ j → j < length table → (get_or table i d).version ≡ v → (get_or table j d).version ≡ v → (get_or table k d).version ≡ v
    between i j k d le le' in_j vi vj =
        omega (arith, never_falls table t.in_order i k d le (omega (arith, le', in_j)), never_falls table t.in_order k j d le' in_j, vi, vj)

    has_neighbour : (q : ℕ) → q < length table → ((d : VersionedPut) → (get_or table q d).version ≡ v) → q ≢ place → Beside table place
    has_neighbour q in_q at_q differs = elim (cases_lt q place) [
      | inl less ↦ (place - 1, omega (arith, inside), inl (omega (arith, less)), λ d. between q place (place - 1) d (omega (arith, less)) (omega arith) inside (at_q d) (at d) ∙ sym (at d))
      | inr le ↦ (place + 1, omega (arith, le, in_q, differs), inr refl, λ d. between place q (place + 1) d (omega arith) (omega (arith, le, differs)) in_q (at d) (at_q d) ∙ sym (at d))
    ]

-- what is at a place is a put of that version, inside the table
pub put_there : (h : Sessions) (table : List VersionedPut) → IsPutTable h table → (k : ℕ) (p : OpName) (v : ℕ) → StandsAt table k p v → PutsVersion h p v
put_there h table t k p v at =
    let q : VersionedPut = record { version = v; name = p } in
    let here = at_index table k q q at in
    (t.members q).0 (k, here.0, here.1)

pub inside_table : (table : List VersionedPut) (k : ℕ) (p : OpName) (v : ℕ) → StandsAt table k p v → k < length table
inside_table table k p v at = let q : VersionedPut = record { version = v; name = p } in (at_index table k q q at).0

-- the version of the put at a place
pub version_at : (table : List VersionedPut) (k : ℕ) (p : OpName) (v : ℕ) → StandsAt table k p v → (get_or table k (record { version = v; name = p })).version ≡ v
version_at table k p v at = let q : VersionedPut = record { version = v; name = p } in ap (λ (x : VersionedPut). x.version) (at_index table k q q at).1

-- the put that was read at a place is there
pub stands_item : (table : List VersionedPut) (k : ℕ) (put : VersionedPut) → k < length table → put ≡ get_or table k put → StandsAt table k put.name put.version
stands_item table k put inside at = stands table k put inside ∙ ap (λ (x : VersionedPut). Some x) (sym at)

-- what is at a place has its version
pub stands_at : (table : List VersionedPut) (k : ℕ) (d : VersionedPut) → k < length table → StandsAt table k (get_or table k d).name (get_or table k d).version
stands_at table k d inside = stands table k d inside

-- puts have versions in the order of their places
module _ (table : List VersionedPut) (rising : Rises table) where
  pub version_rises : (i j : ℕ) (p q : OpName) (v w : ℕ) → StandsAt table i p v → StandsAt table j q w → i < j → v < w
  version_rises i j p q v w at_i at_j less =
      let d : VersionedPut = record { version = v; name = p } in
      let a = at_index table i d d at_i in
      let b = at_index table j _ d at_j in
      let va : (get_or table i d).version ≡ v = ap (λ (x : VersionedPut). x.version) a.1 in
      let vb : (get_or table j d).version ≡ w = ap (λ (x : VersionedPut). x.version) b.1 in
      omega (arith, rising i j d less b.0, va, vb)

  pub same_put_at : (i : ℕ) (p q : OpName) (v w : ℕ) → StandsAt table i p v → StandsAt table i q w → (p ≡ q) × (v ≡ w)
  same_put_at i p q v w a b = search rules

  pub place_rises : (i j : ℕ) (p q : OpName) (v w : ℕ) → StandsAt table i p v → StandsAt table j q w → v < w → i < j
  place_rises i j p q v w at_i at_j less = elim (cases_order i j) [
    | inl same ↦ absurd (omega (arith, less, (same_put_at i p q v w at_i (subst (λ (k : ℕ). StandsAt table k q w) (sym same) at_j)).1))
    | inr apart ↦ elim apart [ inl before ↦ before | inr after ↦ absurd (omega (arith, less, version_rises j i q p w v at_j at_i after)) ]
  ]

  pub same_place : (i j : ℕ) (p q : OpName) (v : ℕ) → StandsAt table i p v → StandsAt table j q v → i ≡ j
  same_place i j p q v at_i at_j =
      let not_before : ¬ (i < j) = λ l. omega (arith, version_rises i j p q v v at_i at_j l) in
      let not_after : ¬ (j < i) = λ l. omega (arith, version_rises j i q p v v at_j at_i l) in
      omega (arith, not_before, not_after)

-- the place of a put, from any place of its version
pub place_for : (h : Sessions) (table : List VersionedPut) → IsVersionTable h table → (p : OpName) (v k : ℕ) → PutsVersion h p v → k < length table → ((d : VersionedPut) → (get_or table k d).version ≡ v) → StandsAt table k p v
place_for h table t p v k put inside at =
    let d : VersionedPut = record { version = v; name = p } in
    let own = place_of_put h table t.table p v put in
    let stands_own : StandsAt table own.0 p v = stands table own.0 d own.1 ∙ ap (λ (x : VersionedPut). Some x) (own.2 d) in
    let here : StandsAt table k (get_or table k d).name v = stands table k d inside ∙ ap (λ (w : ℕ). Some (let x : VersionedPut = record { version = w; name = (get_or table k d).name } in x)) (at d) in
    let e : own.0 ≡ k = same_place table t.rising own.0 k p (get_or table k d).name v stands_own here in
    subst (λ j. StandsAt table j p v) e stands_own

-- each put has a place, with its version
pub stands_put : (h : Sessions) (table : List VersionedPut) → IsPutTable h table → (p : OpName) (v : ℕ) → PutsVersion h p v → (k : ℕ) × StandsAt table k p v
stands_put h table t p v puts =
    let d : VersionedPut = record { version = v; name = p } in
    let own = place_of_put h table t p v puts in
    (own.0, stands table own.0 d own.1 ∙ ap (λ (x : VersionedPut). Some x) (own.2 d))
