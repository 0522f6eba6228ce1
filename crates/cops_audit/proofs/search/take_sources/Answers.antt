use Rattle.std.proofs.Common.{◌≡◌, ◌≢◌, ◌≤◌, ℕ, true, not, get_or, sym, subst, ap, ◌∙◌, inl, inr, arith}
use Rattle.std.proofs.lemmas.Bool.{eq-eqb}
use Rattle.std.proofs.Math.Nat.{eq-or-lt_of_le}
use Rattle.cops_types.specs.Histories.{SourceStep}
use Rattle.cops_types.specs.declared.versioned_put.VersionedPut.{VersionedPut}
use Rattle.cops_audit.specs.Sweeps.{Counted}
use Rattle.cops_audit.proofs.Collect.{item_at}
use Rattle.cops_audit.proofs.Searching.{takes_nothing, takes_on, none_before, none_after, all_sources}
use Rattle.cops_audit.proofs.search.take_sources.Goals as goal

pub returns-in_default-clause-sources : goal.returns-in_default-clause-sources
returns-in_default-clause-sources c = λ put s. absurd (c.in_default.ensures.none s.version (s.key, s.content, s.got))

pub loop-place-init : goal.loop-place-init
loop-place-init c = record {
  takes = takes_nothing c.args.history.now.sessions c.args.name c.args.search.now;
  sources = none_before c.args.history.now.sessions c.args.table.now c.requires.table c.args.name c.in-Some.version c.in-Some.ensures.got c.first_from-first.result c.args.search.now c.first_from-first.ensures.before;
  work = omega arith;
}

pub returns-then-ne-clause-sources : goal.returns-then-ne-clause-sources
returns-then-ne-clause-sources c =
    none_after c.args.history.now.sessions c.args.table.now c.requires.table c.args.name c.in-Some.version c.in-Some.ensures.got c.loop-place.place c.loop-place.search c.loop-place-test.true
    (λ d.
    let same = item_at c.args.table.now c.loop-place.place c.index-table-place.result d c.loop-place-test.true c.index-table-place.is in
    let v : (get_or c.args.table.now c.loop-place.place d).version ≡ c.index-table-place.result.version = ap (λ (p : VersionedPut). p.version) same in
    let differs : c.index-table-place.result.version ≢ c.in-Some.version = λ e. (let t = eq-eqb c.index-table-place.result.version c.in-Some.version e in let n : true ≡ not true = c.if-ne.ensures ∙ ap not t in cc) in
    omega (arith, v, differs, c.first_from-first.ensures.from c.loop-place.place d (omega arith) c.loop-place-test.true))
    c.loop-place.invariant.sources

pub loop-place-preserved : goal.loop-place-preserved
loop-place-preserved c =
    let h = c.args.history.now.sessions in
    record {
      takes = takes_on h c.args.name c.args.search.now c.loop-place.search c.take_source.new.search c.loop-place.invariant.takes c.in_ok-take_source.ensures.takes;
      sources = λ k d less inside source. elim (eq-or-lt_of_le (let le : k ≤ c.loop-place.place = omega (arith, less) in le)) [
        | inl same ↦
            let here : (get_or c.args.table.now k d).name ≡ c.index-table-place.result.name = ap (λ (j : ℕ). (get_or c.args.table.now j d).name) same
            ∙ ap (λ (p : VersionedPut). p.name) (item_at c.args.table.now c.loop-place.place c.index-table-place.result d c.loop-place-test.true c.index-table-place.is) in
            subst (Counted c.take_source.new.search.counts) (sym here) (c.in_ok-take_source.ensures.source (subst (λ x. SourceStep h x c.args.name) here source))
        | inr before ↦ c.in_ok-take_source.ensures.takes.kept _ (c.loop-place.invariant.sources k d before inside source)
      ];
      work = omega (arith, c.in_ok-take_source.ensures.work, c.loop-place.invariant.work);
    }

pub returns-clause-sources : goal.returns-clause-sources
returns-clause-sources c =
    all_sources c.args.history.now.sessions c.args.table.now c.requires.table c.args.name c.in-Some.version c.in-Some.ensures.got c.loop-place.place c.loop-place.search (omega arith) c.loop-place.invariant.sources
