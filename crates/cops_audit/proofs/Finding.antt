-- A search that has nothing left to visit has counted the past.
use Rattle.std.proofs.Common.{◌≡◌, ◌<◌, ℕ, List, [], length, get_or, replicate, refl, ◌∙◌, ap, subst, inl, inr, arith}
use Rattle.std.proofs.lemmas.List.{length-replicate}
use Rattle.cops_types.specs.declared.op.OpName.{OpName}
use Rattle.cops_types.specs.Histories.{Sessions, IsNamed, SourceStep}
use Rattle.cops_types.specs.Past.{Step, Past, step, more}
use Rattle.cops_audit.specs.declared.sweep.Sweep.{Sweep}
use Rattle.cops_audit.specs.Searches.{Finds, IsPast, IsSearching, ListsCounts, TakesSources}
use Rattle.cops_audit.specs.Sweeps.{Counted, IsFresh, Raises}
use Rattle.cops_audit.proofs.Closing.{none_in_nothing}
use Rattle.cops_audit.proofs.PastOrder.{past_joined}
use Rattle.cops_audit.proofs.Flooring.{zero_at}

module _ (h : Sessions) (op : OpName) where
  -- what is counted at the start, an operation and its sources, is all still to be visited, and in its past
  pub begun : (clients : ℕ) (fresh raised taken : Sweep) → IsFresh clients 0 fresh → clients ≡ length h → Raises fresh raised op.client op.index → TakesSources h op raised taken → IsSearching h taken (λ _. ⊥)
  begun clients fresh raised taken is c raises takes = record {
    clients = takes.clients ∙ raises.width ∙ ap length is.counts ∙ length-replicate {A = ℕ} clients 0 ∙ c;
    open_counted = λ n there. absurd there;
    pending_counted = λ n there. elim (takes.pending_counted n there) [
      | inl before ↦ takes.kept n (elim (raises.pending_counted n before) [ inl old ↦ absurd (none_in_nothing fresh.pending.items n is.pending old) | inr now ↦ now ])
      | inr now ↦ now
    ];
    sources = λ n put counted source. inr (inl (elim (takes.pending n counted) [
      | inl before ↦ takes.still n (elim (raises.pending n before) [ inl old ↦ absurd (none_counted clients fresh is n old) | inr pending ↦ pending ])
      | inr pending ↦ pending
    ]));
  }
    where
      none_counted : (k : ℕ) (s : Sweep) → IsFresh k 0 s → (n : OpName) → ¬ Counted s.counts n
      none_counted k s f n there =
          let e : get_or s.counts n.client 0 ≡ get_or (replicate k 0) n.client 0 = ap (λ (l : List ℕ). get_or l n.client 0) f.counts in
          omega (arith, there, e, zero_at k n.client)

  pub begun_past : (clients : ℕ) (fresh raised taken : Sweep) → IsFresh clients 0 fresh → IsNamed h op → Raises fresh raised op.client op.index → TakesSources h op raised taken → (n : OpName) → Counted taken.counts n → Past h n op
  begun_past clients fresh raised taken is named raises takes n there = elim (takes.past n there) [
    | inr past ↦ past
    | inl before ↦ elim (raises.counts n before) [
      | inl old ↦
          let e : get_or fresh.counts n.client 0 ≡ get_or (replicate clients 0) n.client 0 = ap (λ (l : List ℕ). get_or l n.client 0) is.counts in
          absurd (omega (arith, old, e, zero_at clients n.client))
      | inr own ↦ step (inl (record { same_client = own.0; earlier = own.1; is_there = named }))
    ]
  ]

  -- what is found is in the past
  pub found_past : (begun found : Sweep) → Finds h begun found → ((n : OpName) → Counted begun.counts n → Past h n op) → (n : OpName) → Counted found.counts n → Past h n op
  found_past begun found finds was n there = elim (finds.past n there) [
    | inl before ↦ was n before
    | inr w ↦ past_joined h n w.0 _ w.2 (was w.0 w.1)
  ]

  module _ (s : Sweep) (searching : IsSearching h s (λ _. ⊥)) (empty : s.pending.items ≡ []) where
    closed_step : (a b : OpName) → Step h a b → Counted s.counts b → Counted s.counts a
    closed_step a b (inl e) there =
        let same : get_or s.counts a.client 0 ≡ get_or s.counts b.client 0 = ap (λ (k : ℕ). get_or s.counts k 0) e.same_client in
        omega (arith, there, e.earlier, same)
    closed_step a b (inr e) there = elim (searching.sources b a there e) [
      | inl counted ↦ counted
      | inr left ↦ elim left [ inl pending ↦ absurd (none_in_nothing s.pending.items b empty pending) | inr none ↦ absurd none ]
    ]

    closed : (a : OpName) {b : OpName} → Past h a b → Counted s.counts b → Counted s.counts a
    closed a {b} (step e) there = closed_step a b e there
    closed a {b} (more {by = by} p e) there = closed a p (closed_step by b e there)

    past_found : ((n : OpName) → n.client ≡ op.client → n.index < op.index → Counted s.counts n) → ((put : OpName) → SourceStep h put op → Counted s.counts put) → (n : OpName) → Past h n op → Counted s.counts n
    past_found own sources n past = by_last op refl past
      where
        by_last : (to : OpName) → to ≡ op → Past h n to → Counted s.counts n
        by_last to same (step (inl e)) = own n (e.same_client ∙ ap (λ (x : OpName). x.client) same) (omega (arith, e.earlier, ap (λ (x : OpName). x.index) same))
        by_last to same (step (inr e)) = sources n (subst (SourceStep h n) same e)
        by_last to same (more {by = by} p (inl e)) = closed n p (own by (e.same_client ∙ ap (λ (x : OpName). x.client) same) (omega (arith, e.earlier, ap (λ (x : OpName). x.index) same)))
        by_last to same (more {by = by} p (inr e)) = closed n p (sources by (subst (SourceStep h by) same e))

    pub is_past : (pairs : List (ℕ × ℕ)) → ListsCounts s.counts pairs → ((n : OpName) → n.client ≡ op.client → n.index < op.index → Counted s.counts n)
        → ((put : OpName) → SourceStep h put op → Counted s.counts put) → ((n : OpName) → Counted s.counts n → Past h n op) → IsPast h op pairs
    is_past pairs lists own sources sound = record {
      exact = λ n. (
        (λ past. let there : n.index < get_or s.counts n.client 0 = past_found own sources n past in (get_or s.counts n.client 0, (lists.members n.client (get_or s.counts n.client 0)).1 (refl, omega (arith, there)), there)),
        (λ w. let m = (lists.members n.client w.0).0 w.1 in sound n (omega (arith, w.2, m.0))),
      );
      positive = λ client count at. ((lists.members client count).0 at).1;
      in_order = lists.in_order;
    }
