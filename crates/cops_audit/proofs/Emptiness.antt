-- A class of faults is empty or not; and the order of versions.
use Rattle.std.proofs.Common.{rules, ◌≡◌, ◌≢◌, ◌<◌, ℕ, List, [], length, get_or, map, eqb, Bool, true, false, Some, sym, ◌∙◌, ap, subst, arith, slice_get, Contains}
use Rattle.std.proofs.lemmas.List.{length-map, get_or-map}
use Rattle.std.proofs.lemmas.Option.{get_or_from_slice_get, slice_get_within}
use Rattle.cops_types.specs.declared.op.OpName.{OpName}
use Rattle.cops_types.specs.Histories.{Sessions, Puts, PutsVersion}
use Rattle.cops_types.specs.Convergence.{StandsBefore}
use Rattle.cops_types.specs.VersionOrder.{IsVersionOrder}
use Rattle.cops_types.specs.Faults.{Lists}
use Rattle.cops_types.specs.declared.versioned_put.VersionedPut.{VersionedPut}
use Rattle.cops_audit.specs.Tables.{IsVersionTable}
use Rattle.cops_audit.proofs.Acyclic.{one_version}
use Rattle.cops_audit.proofs.Collect.{get_or-default}

module _ {A : Type 0} (name_of : A → OpName) (IsFault : A → Type 0) (faults : List A) (empty : Bool) (n : ℕ) where
  pub none_there : Lists name_of IsFault faults → empty ≡ true → empty ≡ eqb n 0 → n ≡ length faults → (x : A) → ¬ IsFault x
  none_there lists is_empty test len x fault = search rules

  pub some_there : empty ≡ false → empty ≡ eqb n 0 → n ≡ length faults → faults ≢ []
  some_there is_some test len same = search rules

pub at_index : {A : Type 0} (xs : List A) (i : ℕ) (x d : A) → slice_get xs i ≡ Some x → (i < length xs) × (get_or xs i d ≡ x)
at_index xs i x d e = (slice_get_within xs i x e, get_or_from_slice_get xs i x d e)

-- the names of a table of puts, which is in order of versions
pub order_of_table : (h : Sessions) (table : List VersionedPut) → IsVersionTable h table → IsVersionOrder h (map (λ p. p.name) table)
order_of_table h table by_version = record { members = λ p. (forth p, back p); rising = rising }
  where
    forth : (p : OpName) → Contains (map (λ (q : VersionedPut). q.name) table) p → Puts h p
    forth p at =
        let d : VersionedPut = record { version = 0; name = p } in
        let inside : at.0 < length table = omega (arith, at.1, length-map table (λ (q : VersionedPut). q.name)) in
        let put = get_or table at.0 d in
        let same : put.name ≡ p = sym (get_or-map (λ (q : VersionedPut). q.name) table at.0 d p inside) ∙ at.2 in
        (put.version, subst (λ n. PutsVersion h n put.version) same ((by_version.table.members put).0 (at.0, inside, get_or-default table at.0 put d inside)))

    back : (p : OpName) → Puts h p → Contains (map (λ (q : VersionedPut). q.name) table) p
    back p put =
        let d : VersionedPut = record { version = put.0; name = p } in
        let at = (by_version.table.members d).1 put.1 in
        (at.0, omega (arith, at.1, length-map table (λ (q : VersionedPut). q.name)), get_or-map (λ (q : VersionedPut). q.name) table at.0 d p at.1 ∙ ap (λ (q : VersionedPut). q.name) at.2)

    -- the version at a place of the names
    version_at : (k : ℕ) (n : OpName) (v : ℕ) (d : VersionedPut) → slice_get (map (λ (r : VersionedPut). r.name) table) k ≡ Some n → PutsVersion h n v → (k < length table) × ((get_or table k d).version ≡ v)
    version_at k n v d e put =
        let at = at_index (map (λ (r : VersionedPut). r.name) table) k n n e in
        let inside : k < length table = omega (arith, at.0, length-map table (λ (r : VersionedPut). r.name)) in
        let own = get_or table k d in
        let name : own.name ≡ n = sym (get_or-map (λ (r : VersionedPut). r.name) table k d n inside) ∙ at.1 in
        (inside, one_version h own.name n own.version v ((by_version.table.members own).0 (k, inside, get_or-default table k own d inside)) put name)

    rising : (p q : OpName) (v w : ℕ) → StandsBefore (map (λ (r : VersionedPut). r.name) table) p q → PutsVersion h p v → PutsVersion h q w → v < w
    rising p q v w b first second =
        let d : VersionedPut = record { version = v; name = p } in
        let at_p = version_at b.0 p v d b.3 first in
        let at_q = version_at b.1 q w d b.4 second in
        omega (arith, by_version.rising b.0 b.1 d b.2 at_q.0, at_p.1, at_q.1)
