-- Pasts of any history, found by a search.
use Rattle.std.proofs.Common.{rules, ◌≡◌, ◌<◌, ◌≤◌, ◌+◌, ℕ, List, [], ◌∷◌, ◌++◌, length, get_or, sym, ◌∙◌, ap, subst, inl, inr, arith}
use Rattle.std.proofs.Math.Nat.{eq-or-lt_of_le}
use Rattle.std.proofs.lemmas.Bool.{cases_lt}
use Rattle.cops_types.specs.declared.op.OpName.{OpName}
use Rattle.cops_types.specs.Histories.{Sessions, PutsVersion, SourceStep}
use Rattle.cops_types.specs.Operations.{GetsVersion}
use Rattle.cops_types.specs.Past.{Past, step, more}
use Rattle.cops_types.specs.declared.versioned_put.VersionedPut.{VersionedPut}
use Rattle.cops_audit.specs.declared.sweep.OpRange.{OpRange}
use Rattle.cops_audit.specs.declared.sweep.Sweep.{Sweep}
use Rattle.cops_audit.specs.Searches.{Finds, IsSearching, TakesSources}
use Rattle.cops_audit.specs.Sweeps.{Counted, InRange, InSome, Raises}
use Rattle.cops_audit.specs.Tables.{IsPutTable}
use Rattle.cops_audit.proofs.Acyclic.{same_name}
use Rattle.cops_audit.proofs.Closing.{none_in_nothing}
use Rattle.cops_audit.proofs.Gets.{one_get_version}
use Rattle.cops_audit.proofs.PastOrder.{past_joined}
use Rattle.cops_audit.proofs.Places.{never_falls, place_of_put, put_at}
use Rattle.cops_audit.proofs.Raising.{in_some_cases, in_some_kept, in_some_last}

module _ (h : Sessions) where
  pub takes_put : (name put : OpName) (old new : Sweep) → SourceStep h put name → Raises old new put.client (put.index + 1) → TakesSources h name old new
  takes_put name put old new source raises = record {
    clients = raises.width;
    kept = raises.kept;
    past = λ n there. elim (raises.counts n there) [
      | inl was ↦ inl was
      | inr now ↦ inr (elim (eq-or-lt_of_le (let le : n.index ≤ put.index = omega (arith, now.1) in le)) [
        | inl same ↦ subst (λ x. Past h x name) (sym (same_name n put now.0 same)) (step (inr source))
        | inr less ↦ more (step (inl (record { same_client = now.0; earlier = less; is_there = (_, source.put) }))) (inr source)
      ])
    ];
    pending = raises.pending;
    still = raises.still;
    pending_counted = raises.pending_counted;
  }

  pub takes_nothing : (name : OpName) (s : Sweep) → TakesSources h name s s
  takes_nothing name s = search rules

  pub takes_on : (name : OpName) (a b c : Sweep) → TakesSources h name a b → TakesSources h name b c → TakesSources h name a c
  takes_on name a b c f g = search rules

  -- the sources of a get have its version
  source_version : (put name : OpName) (own version : ℕ) → PutsVersion h put own → GetsVersion h name version → SourceStep h put name → own ≡ version
  source_version put name own version puts gets s = search rules

  -- the sources at the places so far are counted
  abbrev pub CountedTo : List VersionedPut → OpName → ℕ → Sweep → Type 0
  CountedTo table name count s = (k : ℕ) (d : VersionedPut) → k < count → k < length table → SourceStep h (get_or table k d).name name → Counted s.counts (get_or table k d).name

  module _ (table : List VersionedPut) (t : IsPutTable h table) (name : OpName) (version : ℕ) (gets : GetsVersion h name version) where
    at_version : (k : ℕ) (d : VersionedPut) → k < length table → SourceStep h (get_or table k d).name name → (get_or table k d).version ≡ version
    at_version k d inside s = source_version (get_or table k d).name name (get_or table k d).version version (put_at h table t k d inside) gets s

    pub none_before : (first : ℕ) (s : Sweep) → ((k : ℕ) (d : VersionedPut) → k < first → (get_or table k d).version < version) → CountedTo table name first s
    none_before first s low k d less inside source = absurd (omega (arith, low k d less, at_version k d inside source))

    -- where the sources at the places so far are all of them, all sources are counted
    counted_below : (place : ℕ) (s : Sweep) → ((k : ℕ) → k < length table → ((d : VersionedPut) → (get_or table k d).version ≡ version) → k < place) → CountedTo table name place s
        → (put : OpName) → SourceStep h put name → Counted s.counts put
    counted_below place s below so_far put source =
        let at = place_of_put h table t put version (subst (PutsVersion h put) (one_get_version h name source.version version (source.key, source.content, source.got) gets) (source.key, source.content, source.put)) in
        let d : VersionedPut = record { version = version; name = put } in
        let is : (get_or table at.0 d).name ≡ put = ap (λ (q : VersionedPut). q.name) (at.2 d) in
        subst (Counted s.counts) is (so_far at.0 d (below at.0 at.1 (λ e. ap (λ (q : VersionedPut). q.version) (at.2 e))) at.1 (subst (λ x. SourceStep h x name) (sym is) source))

    -- as where the next place has a higher version
    pub none_after : (place : ℕ) (s : Sweep) → place < length table → ((d : VersionedPut) → version < (get_or table place d).version) → CountedTo table name place s → (put : OpName) → SourceStep h put name → Counted s.counts put
    none_after place s inside high = counted_below place s (λ k in_k own. elim (cases_lt k place) [
      | inl less ↦ less
      | inr le ↦ let d : VersionedPut = record { version = version; name = name } in absurd (omega (arith, never_falls table t.in_order place k d le in_k, own d, high d))
    ])

    -- as at the end
    pub all_sources : (place : ℕ) (s : Sweep) → length table ≤ place → CountedTo table name place s → (put : OpName) → SourceStep h put name → Counted s.counts put
    all_sources place s enough = counted_below place s (λ k inside own. omega (arith, inside, enough))

  -- one operation of a range is visited
  pub search_on : (old new : Sweep) (name : OpName) (to : ℕ) → name.index < to → IsSearching h old (InRange (record { client = name.client; from = name.index; to = to })) → TakesSources h name old new
      → ((put : OpName) → SourceStep h put name → Counted new.counts put) → IsSearching h new (InRange (record { client = name.client; from = name.index + 1; to = to }))
  search_on old new name to inside was takes sources = record {
    clients = takes.clients ∙ was.clients;
    open_counted = λ n there. takes.kept n (was.open_counted n (there.0, omega (arith, there.1), there.2));
    pending_counted = λ n there. elim (takes.pending_counted n there) [ inl before ↦ takes.kept n (was.pending_counted n before) | inr now ↦ now ];
    sources = λ n put counted source. elim (takes.pending n counted) [
      | inr pending ↦ inr (inl pending)
      | inl before ↦ elim (was.sources n put before source) [
        | inl there ↦ inl (takes.kept put there)
        | inr left ↦ elim left [
          | inl pending ↦ inr (inl (takes.still n pending))
          | inr range ↦ elim (eq-or-lt_of_le range.1) [
            | inl same ↦ inl (sources put (subst (SourceStep h put) (same_name n name range.0 (sym same)) source))
            | inr less ↦ inr (inr (range.0, omega (arith, less), range.2))
          ]
        ]
      ]
    ];
  }

  pub search_finds : (old new : Sweep) (name : OpName) → Counted old.counts name → TakesSources h name old new → Finds h old new
  search_finds old new name there takes = search rules

  pub finds_on : (a b c : Sweep) → Finds h a b → Finds h b c → Finds h a c
  finds_on a b c f g = record {
    kept = λ n there. g.kept n (f.kept n there);
    past = λ n there. elim (g.past n there) [
      | inl was ↦ f.past n was
      | inr w ↦ elim (f.past w.0 w.1) [
        | inl was ↦ inr (w.0, was, w.2)
        | inr v ↦ inr (v.0, v.1, past_joined h n w.0 _ w.2 v.2)
      ]
    ];
  }

  -- nothing is left to visit in the range
  pub search_ends : (s : Sweep) (IsOpen : OpName → Type 0) → ((n : OpName) → ¬ IsOpen n) → IsSearching h s IsOpen → IsSearching h s (λ _. ⊥)
  search_ends s IsOpen none was = record {
    clients = was.clients;
    open_counted = λ n there. absurd there;
    pending_counted = was.pending_counted;
    sources = λ n put counted source. elim (was.sources n put counted source) [
      | inl there ↦ inl there
      | inr left ↦ elim left [ inl pending ↦ inr (inl pending) | inr open' ↦ absurd (none n open') ]
    ];
  }

  -- a range is taken from those that are pending
  pub search_popped : (old new : Sweep) (range : OpRange) → new.counts ≡ old.counts → old.pending.items ≡ new.pending.items ++ range ∷ [] → IsSearching h old (λ _. ⊥) → IsSearching h new (InRange range)
  search_popped old new range counts pending was = record {
    clients = ap length counts ∙ was.clients;
    open_counted = λ n there. now n (was.pending_counted n (subst (λ rs. InSome rs n) (sym pending) (in_some_last new.pending.items range n there)));
    pending_counted = λ n there. now n (was.pending_counted n (subst (λ rs. InSome rs n) (sym pending) (in_some_kept new.pending.items range n there)));
    sources = λ n put counted source. elim (was.sources n put (subst (λ cs. Counted cs n) counts counted) source) [
      | inl there ↦ inl (now put there)
      | inr left ↦ elim left [
        | inl there ↦ inr (in_some_cases new.pending.items range n (subst (λ rs. InSome rs n) pending there))
        | inr none ↦ absurd none
      ]
    ];
  }
    where
      now : (n : OpName) → Counted old.counts n → Counted new.counts n
      now n there = subst (λ cs. Counted cs n) (sym counts) there

  -- nothing is left to visit at all
  pub search_done : (old new : Sweep) → new.counts ≡ old.counts → old.pending.items ≡ [] → new.pending.items ≡ [] → IsSearching h old (λ _. ⊥) → IsSearching h new (λ _. ⊥)
  search_done old new counts empty still was = record {
    clients = ap length counts ∙ was.clients;
    open_counted = λ n there. absurd there;
    pending_counted = λ n there. absurd (none_in_nothing new.pending.items n still there);
    sources = λ n put counted source. elim (was.sources n put (subst (λ cs. Counted cs n) counts counted) source) [
      | inl there ↦ inl (subst (λ cs. Counted cs put) (sym counts) there)
      | inr left ↦ elim left [ inl there ↦ absurd (none_in_nothing old.pending.items n empty there) | inr none ↦ absurd none ]
    ];
  }
