-- Suspects that are stale, and those that are not.
use Rattle.std.proofs.Common.{◌≡◌, ◌<◌, ◌≤◌, ◌+◌, ℕ, List, [], ◌∷◌, ◌++◌, length, get_or, map, take, sym, ◌∙◌, ap, subst, arith, AllPairs}
use Rattle.std.proofs.lemmas.List.{length-map, get_or-map}
use Rattle.cops_types.specs.declared.op.OpName.{OpName}
use Rattle.cops_types.specs.Histories.{Sessions}
use Rattle.cops_types.specs.Faults.{IsBefore, IsNewer, IsStale}
use Rattle.cops_audit.specs.SoFar.{HaveSourcesOrWait}
use Rattle.cops_types.specs.declared.versioned_put.VersionedPut.{VersionedPut}
use Rattle.cops_audit.specs.declared.summaries.Summary.{Summary}
use Rattle.cops_audit.specs.declared.verdict.Stale.{Stale}
use Rattle.cops_audit.specs.declared.window.Suspect.{Suspect}
use Rattle.cops_audit.specs.Keys.{AreFirsts}
use Rattle.cops_audit.specs.Names.{ListsAmong}
use Rattle.cops_audit.specs.Summaries.{IsSummarized, StandsAt}
use Rattle.cops_audit.specs.Sweeps.{IsNewestIn, NoneFrom}
use Rattle.cops_audit.specs.Tables.{IsVersionTable}
use Rattle.cops_audit.specs.Windows.{IsSuspect}
use Rattle.cops_audit.proofs.Bridging.{none_reported, stale_reported}
use Rattle.cops_audit.proofs.Clearing.{stands_for}
use Rattle.cops_audit.proofs.Collect.{push_next, skip_next}
use Rattle.cops_audit.proofs.Learning.{one_put_at}
use Rattle.cops_audit.proofs.Places.{inside_table, same_place, stands_item}

same_fault : (a b : Stale) → a.op ≡ b.op → a.newer ≡ b.newer → a ≡ b
same_fault a b e f = ap (λ (p : OpName × OpName). let n : Stale = record { op = p.0; newer = p.1 } in n) (let q : (a.op, a.newer) ≡ (b.op, b.newer) = cc in q)

-- there is one newest put
one_newest : (h : Sessions) (table : List VersionedPut) → IsVersionTable h table → (name a b : OpName) → IsStale h name a → IsStale h name b → a ≡ b
one_newest h table t name a b f g =
    let at_a = stands_for h table t.table a f.version (f.is_newer.key, f.is_newer.put.0, f.is_newer.put.1) in
    let at_b = stands_for h table t.table b g.version (g.is_newer.key, g.is_newer.put.0, g.is_newer.put.1) in
    let same : f.version ≡ g.version = omega (arith, f.newest b g.version g.is_newer, g.newest a f.version f.is_newer) in
    let place = same_place table t.rising at_a.0 at_b.0 a b g.version (subst (StandsAt table at_a.0 a) same at_a.1) at_b.1 in
    one_put_at table at_b.0 a b f.version g.version (subst (λ (k : ℕ). StandsAt table k a f.version) place at_a.1) at_b.1

pub one_stale : (h : Sessions) (table : List VersionedPut) → IsVersionTable h table → (a b : Stale) → IsStale h a.op a.newer → IsStale h b.op b.newer → a.op ≡ b.op → a ≡ b
one_stale h table t a b f g e = same_fault a b e (one_newest h table t b.op a.newer b.newer (subst (λ n. IsStale h n a.newer) e f) g)

pub ops_in_order : (suspects : List Suspect) → AllPairs (λ s t. IsBefore s.op t.op) suspects → AllPairs IsBefore (map (λ (s : Suspect). s.op) suspects)
ops_in_order suspects in_order i j d less inside =
    let in_j : j < length suspects = omega (arith, inside, length-map suspects (λ (s : Suspect). s.op)) in
    let e : Suspect = record { op = d; first = 0; from = 0 } in
    subst (λ x. IsBefore x (get_or (map (λ (s : Suspect). s.op) suspects) j d)) (sym (get_or-map (λ (s : Suspect). s.op) suspects i e d (omega (arith, less, in_j))))
    (subst (λ x. IsBefore (get_or suspects i e).op x) (sym (get_or-map (λ (s : Suspect). s.op) suspects j e d in_j)) (in_order i j e less in_j))

module _ (h : Sessions) (table : List VersionedPut) (t : IsVersionTable h table) (summaries : List (List Summary)) (summarized : IsSummarized h table summaries) (sources : HaveSourcesOrWait h) (firsts : List ℕ) (are : AreFirsts h table firsts)
    (suspects : List Suspect) (in_order : AllPairs (λ s t. IsBefore s.op t.op) suspects) (k : ℕ) (inside : k < length suspects) (d : Suspect) (is : IsSuspect h table (get_or suspects k d)) (faults : List Stale)
    (lists : ListsAmong (λ f. f.op) (λ f. IsStale h f.op f.newer) (take k (map (λ (s : Suspect). s.op) suspects)) faults) where
  in_ops : k < length (map (λ (s : Suspect). s.op) suspects)
  in_ops = omega (arith, inside, length-map suspects (λ (s : Suspect). s.op))

  op_at : (e : OpName) → get_or (map (λ (s : Suspect). s.op) suspects) k e ≡ (get_or suspects k d).op
  op_at e = get_or-map (λ (s : Suspect). s.op) suspects k d e inside

  pub report_none : NoneFrom table summaries firsts (get_or suspects k d).op (get_or suspects k d).first (get_or suspects k d).from
      → ListsAmong (λ f. f.op) (λ f. IsStale h f.op f.newer) (take (k + 1) (map (λ (s : Suspect). s.op) suspects)) faults
  report_none none =
      let e : OpName = record { client = 0; index = 0 } in
      skip_next (λ f. f.op) (λ f. IsStale h f.op f.newer) (map (λ (s : Suspect). s.op) suspects) (ops_in_order suspects in_order) k in_ops faults e lists
      (λ x f same. none_reported h table t firsts are summaries summarized sources (get_or suspects k d) is none x.newer f.version (subst (λ n. IsNewer h n x.newer f.version) (same ∙ op_at e) f.is_newer))

  pub report_stale : (place : ℕ) (op : OpName) (put : VersionedPut) → op ≡ (get_or suspects k d).op → put ≡ get_or table place put
      → (get_or suspects k d).from ≤ place → IsNewestIn table summaries firsts (get_or suspects k d).op (get_or suspects k d).first place
      → ListsAmong (λ f. f.op) (λ f. IsStale h f.op f.newer) (take (k + 1) (map (λ (s : Suspect). s.op) suspects)) (faults ++ record { op = op; newer = put.name } ∷ [])
  report_stale place op put same at le newest =
      let e : OpName = record { client = 0; index = 0 } in
      let here = stands_item table place put (inside_table table place newest.put newest.version newest.stands) at in
      let name : newest.put ≡ put.name = one_put_at table place newest.put put.name newest.version put.version newest.stands here in
      let stale : IsStale h op put.name = subst (λ n. IsStale h n put.name) (sym same) (subst (IsStale h (get_or suspects k d).op) name (stale_reported h table t firsts are summaries summarized sources (get_or suspects k d) is place newest le)) in
      push_next (λ f. f.op) (λ f. IsStale h f.op f.newer) (map (λ (s : Suspect). s.op) suspects) (ops_in_order suspects in_order) k in_ops faults e
      (record { op = op; newer = put.name }) (same ∙ sym (op_at e)) lists stale (λ x f x_op. one_stale h table t x (record { op = op; newer = put.name }) f stale x_op)
