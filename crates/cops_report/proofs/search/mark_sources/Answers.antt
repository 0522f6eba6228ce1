use Rattle.std.proofs.Common.{◌≡◌, ◌≢◌, ◌∙◌, ◌≤◌, arith, inr, false, true, refl, subst, sym, ap, get_or}
use Rattle.std.proofs.lemmas.List.{get_or_default}
use Rattle.cops_types.specs.Histories.{SourceStep}
use Rattle.cops_types.specs.declared.versioned_put.VersionedPut.{VersionedPut}
use Rattle.cops_audit.proofs.Places.{never_falls}
use Rattle.cops_report.specs.Marks.{IsMarked}
use Rattle.cops_report.proofs.GainLemmas.{gains_more, gains_none}
use Rattle.cops_report.proofs.PutLemmas.{holders_all, holders_more}
use Rattle.cops_report.proofs.search.mark_sources.Goals as goal
use Rattle.cops_report.proofs.search.mark_sources.Goals.{then-is_source+in_ok-mark_new, else-is_source}

pub loop-put-preserved : goal.loop-put-preserved
loop-put-preserved c =
    let h = c.args.history.now.sessions in
    let puts = c.from_version-holders.result.now in
    let i = c.loop-put.put-index in
    let p = c.put-item.result in
    let names = c.loop-put.names.items in
    elim c.if-is_source.branch [
      | then-is_source+in_ok-mark_new w ↦
          let g = w.in_ok-mark_new.ensures.gains h (inr (w.if-is_source.ensures.source.0 refl)) in
          rw (w.marks-is, w.names-is)
          (record {
            gains = gains_more h c.args.mark c.args.marks.now c.loop-put.marks _ c.args.names.now.items names _ c.loop-put.invariant.gains g;
            all = holders_more h c.args.mark c.loop-put.marks w.mark_new.new.marks names _ puts i p c.loop-put-test.true c.loop-put.invariant.all g
                (λ _. subst (λ (q : VersionedPut). IsMarked w.mark_new.new.marks q.name) c.put-item.is w.in_ok-mark_new.ensures.marked);
          })
      | else-is_source w ↦
          rw (w.marks-is, w.names-is)
          (record {
            gains = c.loop-put.invariant.gains;
            all = holders_more h c.args.mark c.loop-put.marks c.loop-put.marks names names puts i p c.loop-put-test.true c.loop-put.invariant.all (gains_none h c.args.mark c.loop-put.marks names)
                (λ s. absurd (let e : false ≡ true = w.if-is_source.ensures.source.1 (subst (λ (q : VersionedPut). SourceStep h q.name c.args.mark.next) (sym c.put-item.is) s) in cc));
          })
    ]

pub returns-in_default-clause-all : goal.returns-in_default-clause-all
returns-in_default-clause-all c = λ n s.
    absurd ((rw c.in_default.is at c.got_version.ensures.none) s.version (s.key, s.content, s.got))

pub returns-then-as_u64-clause-all : goal.returns-then-as_u64-clause-all
returns-then-as_u64-clause-all c =
    let holders = c.from_version-holders.result.now in
    let i = c.loop-put.put-index in
    let p = c.put-item.result in
    let v = c.in-Some.version in
    let other : p.version ≢ v = λ e. c.if-as_u64.true (c.as_u64.ensures.number ∙ e ∙ sym c.as_u64-in-loop-put.ensures.number) in
    holders_all c.args.history.now.sessions c.loop-put.marks c.args.mark c.args.puts.now holders i v c.requires.puts c.in-Some.ensures.got c.from_version-holders.ensures.all c.loop-put.invariant.all
    (λ k d at lt e.
    let same : p.version ≡ (get_or holders i d).version = ap (λ (q : VersionedPut). q.version) (c.put-item.is ∙ get_or_default holders i p d c.loop-put-test.true) in
    let low : v ≤ (get_or holders i d).version = c.from_version-holders.ensures.low i d c.loop-put-test.true in
    let up : (get_or holders i d).version ≤ (get_or holders k d).version = never_falls holders c.from_version-holders.ensures.rising i k d at lt in
    other (omega arith))

pub returns-clause-all : goal.returns-clause-all
returns-clause-all c =
    holders_all c.args.history.now.sessions c.loop-put.marks c.args.mark c.args.puts.now c.from_version-holders.result.now c.loop-put.put-index c.in-Some.version c.requires.puts c.in-Some.ensures.got
    c.from_version-holders.ensures.all c.loop-put.invariant.all (λ k d at lt e. absurd (omega (arith, c.loop-put-test.false)))
