-- The classes of faults, by causal summaries and suspects.
use Rattle.std.proofs.Common.{◌≡◌, ◌≢◌, ◌<◌, ◌≤◌, ◌+◌, ℕ, List, [], length, get_or, map, refl, sym, ◌∙◌, ap, subst, inl, inr, arith, Contains}
use Rattle.std.proofs.lemmas.List.{nil_from_length, length-map, get_or-map}
use Rattle.std.proofs.lemmas.List.Elements.{Contains-get_or}
use Rattle.cops_types.specs.declared.op.OpName.{OpName}
use Rattle.cops_types.specs.Histories.{Sessions, IsNamed}
use Rattle.cops_types.specs.Faults.{HasNoSource, IsNewer, IsNotAbove, IsStale, Lists}
use Rattle.cops_types.specs.VersionOrder.{IsDoubled, NoneDoubled}
use Rattle.cops_types.specs.Verdicts.{AllHaveSources, NoneStale}
use Rattle.cops_audit.specs.SoFar.{HaveSourcesOrWait}
use Rattle.cops_types.specs.declared.versioned_put.VersionedPut.{VersionedPut}
use Rattle.cops_audit.specs.declared.summaries.Summary.{Summary}
use Rattle.cops_audit.specs.declared.verdict.NotAbove.{NotAbove}
use Rattle.cops_audit.specs.declared.verdict.Stale.{Stale}
use Rattle.cops_audit.specs.declared.window.Suspect.{Suspect}
use Rattle.cops_audit.specs.Names.{ListsAmong}
use Rattle.cops_audit.specs.Summaries.{IsSummarized, IsSourceless}
use Rattle.cops_audit.specs.Tables.{IsPutTable, IsVersionTable}
use Rattle.cops_audit.specs.Windows.{AreSuspects, AreSuspectsInOrder}
use Rattle.cops_audit.proofs.Collect.{among_all, among_none, among_same, get_or-default}
use Rattle.cops_audit.proofs.PastOrder.{past_to}
use Rattle.cops_audit.proofs.Places.{doubled_by_neighbour, neighbour_of_doubled, place_of_put, put_at}
use Rattle.cops_audit.proofs.Reading.{sourceless_same}

-- where each get has a source, none waits
pub sourced_wait : (h : Sessions) → AllHaveSources h → HaveSourcesOrWait h
sourced_wait h sources n f = absurd (sources n f)

-- the operation of a suspect is among the suspects' operations
pub op_listed : (suspects : List Suspect) (s : Suspect) → Contains suspects s → Contains (map (λ (x : Suspect). x.op) suspects) s.op
op_listed suspects s at = (at.0, omega (arith, at.1, length-map suspects (λ (x : Suspect). x.op)), get_or-map (λ (x : Suspect). x.op) suspects at.0 s s.op at.1 ∙ ap (λ (x : Suspect). x.op) at.2)

listed_op : (suspects : List Suspect) (n : OpName) → Contains (map (λ (x : Suspect). x.op) suspects) n → (s : Suspect) × Contains suspects s × (s.op ≡ n)
listed_op suspects n at =
    let inside : at.0 < length suspects = omega (arith, at.1, length-map suspects (λ (x : Suspect). x.op)) in
    let d : Suspect = record { op = n; first = 0; from = 0 } in
    (get_or suspects at.0 d, Contains-get_or suspects at.0 d inside, sym (get_or-map (λ (x : Suspect). x.op) suspects at.0 d n inside) ∙ at.2)

-- suspects in an equal list
pub seen_suspects : {h : Sessions} {table : List VersionedPut} {names : List OpName} {seen suspects : List Suspect} → seen ≡ suspects → AreSuspects h table names suspects → AreSuspects h table names seen
seen_suspects {h} {table} {names} e are = subst (AreSuspects h table names) (sym e) are

pub in_order_suspects : {h : Sessions} {table : List VersionedPut} {names : List OpName} {suspects : List Suspect} → AreSuspects h table names suspects → AreSuspectsInOrder h table suspects
in_order_suspects {suspects = suspects} are = record { each = λ k d inside. (are.each _ (Contains-get_or suspects k d inside)).0; in_order = are.in_order }

-- the stale gets among the suspects are the stale gets among the names
pub of_suspects : {h : Sessions} {table : List VersionedPut} {names : List OpName} {suspects : List Suspect} {faults : List Stale} → AreSuspects h table names suspects
    → ListsAmong (λ f. f.op) (λ f. IsStale h f.op f.newer) (map (λ (s : Suspect). s.op) suspects) faults → ListsAmong (λ f. f.op) (λ f. IsStale h f.op f.newer) names faults
of_suspects {names = names} {suspects = suspects} are lists = record {
  members = λ x. (
    (λ at.
        let o = (lists.members x).0 at in
        let s = listed_op suspects x.op o.1 in
        (o.0, subst (Contains names) s.2 (are.each s.0 s.1).1)),
    (λ w.
        let s = are.others x.op x.newer w.0.version w.1 w.0.is_newer in
        (lists.members x).1 (w.0, subst (Contains (map (λ (y : Suspect). y.op) suspects)) s.1 (op_listed suspects s.0 s.2))),
  );
  in_order = lists.in_order;
}

-- where there is no suspect, there is no stale get
pub no_stale : {h : Sessions} {table : List VersionedPut} {names : List OpName} {suspects : List Suspect} {faults : List Stale} → AreSuspects h table names suspects → length suspects ≡ 0 → faults ≡ []
    → ListsAmong (λ f. f.op) (λ f. IsStale h f.op f.newer) names faults
no_stale {h} {table} {names} {suspects} are none empty =
    let nothing = subst (AreSuspects h table names) (nil_from_length suspects none) are in
    subst (ListsAmong (λ f. f.op) (λ f. IsStale h f.op f.newer) names) (sym empty) (of_suspects nothing (among_none {A = Stale} (λ f. f.op) (λ f. IsStale h f.op f.newer)))

module _ (h : Sessions) (names : List OpName) (all : Lists (λ n. n) (IsNamed h) names) where
  pub doubled_listed : (faults : List OpName) → ListsAmong (λ n. n) (IsDoubled h) names faults → Lists (λ n. n) (IsDoubled h) faults
  doubled_listed faults lists = among_all (λ n. n) (IsDoubled h) names faults lists (λ x f. (all.members x).1 (_, f.put.2))

  pub stale_listed : (faults : List Stale) → ListsAmong (λ f. f.op) (λ f. IsStale h f.op f.newer) names faults → Lists (λ f. f.op) (λ f. IsStale h f.op f.newer) faults
  stale_listed faults lists = among_all (λ f. f.op) (λ f. IsStale h f.op f.newer) names faults lists (λ x f. (all.members x.op).1 (past_to h x.newer x.op f.is_newer.past))

  pub without_source_listed : (faults : List OpName) → ListsAmong (λ n. n) (HasNoSource h) names faults → Lists (λ n. n) (HasNoSource h) faults
  without_source_listed faults lists = among_all (λ n. n) (HasNoSource h) names faults lists (λ x f. (all.members x).1 (_, f.got))

  pub above_listed : (faults : List NotAbove) → ListsAmong (λ f. f.op) (λ f. IsNotAbove h f.op f.earlier) names faults → Lists (λ f. f.op) (λ f. IsNotAbove h f.op f.earlier) faults
  above_listed faults lists = among_all (λ f. f.op) (λ f. IsNotAbove h f.op f.earlier) names faults lists (λ x f. (all.members x.op).1 (_, f.is_not_below.put.2))

  module _ (table : List VersionedPut) (t : IsVersionTable h table) (summaries : List (List Summary)) (summarized : IsSummarized h table summaries) where
    pub sourceless_listed : (faults : List OpName) → ListsAmong (λ n. n) (IsSourceless summaries) names faults → Lists (λ n. n) (HasNoSource h) faults
    sourceless_listed faults lists = among_all (λ n. n) (HasNoSource h) names faults
        (among_same (λ n. n) (IsSourceless summaries) (HasNoSource h) names faults (sourceless_same h table t summaries summarized) lists) (λ x f. (all.members x).1 (_, f.got))

-- where no suspect is stale, no get is
pub none_stale : (h : Sessions) (table : List VersionedPut) (names : List OpName) (suspects : List Suspect) → Lists (λ n. n) (IsNamed h) names → AreSuspects h table names suspects
    → ((k : ℕ) (d : Suspect) → k < length suspects → (newer : OpName) (version : ℕ) → ¬ IsNewer h (get_or suspects k d).op newer version) → NoneStale h
none_stale h table names suspects all are none name newer f =
    let there = (all.members name).1 (past_to h newer name f.is_newer.past) in
    let s = are.others name newer f.version there f.is_newer in
    let at = s.2 in
    none at.0 s.0 at.1 newer f.version (subst (λ (x : OpName). IsNewer h x newer f.version) (sym (ap (λ (x : Suspect). x.op) at.2 ∙ s.1)) f.is_newer)

-- where versions rise, no two puts have the same version
pub none_doubled : (h : Sessions) (table : List VersionedPut) → IsVersionTable h table → NoneDoubled h
none_doubled h table t name f =
    let at = place_of_put h table t.table name f.version f.put in
    let d : VersionedPut = record { version = f.version; name = name } in
    let parallel = neighbour_of_doubled h table t.table name f.version at.0 at.1 (λ e. ap (λ (q : VersionedPut). q.version) (at.2 e)) f.put f in
    elim parallel.2 [
      | inl e ↦ omega (arith, t.rising parallel.0 at.0 d (omega (arith, e)) at.1, parallel.3 d)
      | inr e ↦ omega (arith, t.rising at.0 parallel.0 d (omega (arith, e)) parallel.1, parallel.3 d)
    ]

-- where versions do not rise, two puts have the same version
pub some_doubled : (h : Sessions) (table : List VersionedPut) → IsPutTable h table → (k : ℕ) → k + 1 < length table → ((d : VersionedPut) → (get_or table (k + 1) d).version ≤ (get_or table k d).version) → (name : OpName) × IsDoubled h name
some_doubled h table t k inside falls =
    let d : VersionedPut = record { version = 0; name = record { client = 0; index = 0 } } in
    let put = get_or table k d in
    let in_k : k < length table = omega (arith, inside) in
    let same : (e : VersionedPut) → (get_or table (k + 1) e).version ≡ (get_or table k e).version = λ e. omega (arith, falls e, t.in_order k (k + 1) e (omega arith) inside) in
    (put.name, doubled_by_neighbour h table t put.name put.version (put_at h table t k d in_k) (k + 1) k inside in_k (inr refl) (λ e. ap (λ (q : VersionedPut). q.version) (get_or-default table k e d in_k)) same)

pub some_listed : (h : Sessions) (faults : List OpName) → Lists (λ n. n) (IsDoubled h) faults → (name : OpName) × IsDoubled h name → faults ≢ []
some_listed h faults lists some e =
    let at = (lists.members some.0).1 some.1 in
    let none : length faults ≡ 0 = ap length e in
    omega (arith, at.1, none)
