use Rattle.std.proofs.Common.{map, get_or, refl, ap, arith}
use Rattle.std.proofs.lemmas.List.{length-map}
use Rattle.cops_types.specs.Faults.{IsStale}
use Rattle.cops_audit.specs.declared.window.Suspect.{Suspect}
use Rattle.cops_audit.proofs.Collect.{among_here}
use Rattle.cops_audit.proofs.Places.{inside_table}
use Rattle.cops_audit.proofs.Reporting.{report_none, report_stale}
use Rattle.cops_audit.proofs.Flooring.{none_at, some_at}
use Rattle.cops_audit.proofs.stale.stale_suspects.Goals as goal
use Rattle.cops_audit.proofs.stale.stale_suspects.Goals.{in-Some+in_ok-push, in_default}

pub bounds-analysis-place : goal.bounds-analysis-place
bounds-analysis-place c =
    let none : Suspect = record { op = record { client = 0; index = 0 }; first = 0; from = 0 } in
    let w = some_at _ c.in_ok-found.found c.in-Some.place c.in-Some.is c.in_ok-found.ensures.found none in
    inside_table c.args.analysis.now.table.now c.in-Some.place w.1.put w.1.version w.1.stands

pub loop-k-preserved : goal.loop-k-preserved
loop-k-preserved c =
    let h = c.args.analysis.now.history.now.sessions in
    let none : Suspect = record { op = record { client = 0; index = 0 }; first = 0; from = 0 } in
    elim c.match-found.branch [
      | in-Some+in_ok-push w ↦ rw (w.faults-is, w.in_ok-push.ensures.items)
          (let found = some_at _ c.in_ok-found.found w.in-Some.place w.in-Some.is c.in_ok-found.ensures.found none in
          record {
            faults = report_stale h c.args.analysis.now.table.now c.requires.analysis.table c.args.analysis.now.summaries.now c.requires.analysis.summaries c.requires.analysis.sources c.args.analysis.now.firsts.now c.requires.analysis.firsts c.args.suspects.now c.requires.suspects.in_order c.loop-k.k (omega arith) none
                (c.requires.suspects.each c.loop-k.k none (omega arith)) c.loop-k.faults.items c.loop-k.invariant.faults w.in-Some.place _ (get_or c.args.analysis.now.table.now w.in-Some.place w.index-analysis-place.result) refl (ap (get_or c.args.analysis.now.table.now w.in-Some.place) w.index-analysis-place.is) found.0 found.1;
            after = c.in_ok-found.ensures.after;
          })
      | in_default w ↦ rw w.faults-is
          record {
            faults = report_none h c.args.analysis.now.table.now c.requires.analysis.table c.args.analysis.now.summaries.now c.requires.analysis.summaries c.requires.analysis.sources c.args.analysis.now.firsts.now c.requires.analysis.firsts c.args.suspects.now c.requires.suspects.in_order c.loop-k.k (omega arith) none
                (c.requires.suspects.each c.loop-k.k none (omega arith)) c.loop-k.faults.items c.loop-k.invariant.faults (none_at _ c.in_ok-found.found w.in_default.is c.in_ok-found.ensures.none none);
            after = c.in_ok-found.ensures.after;
          }
    ]

pub returns : goal.returns
returns c = among_here (λ f. f.op) (λ f. IsStale c.args.analysis.now.history.now.sessions f.op f.newer) (map (λ (s : Suspect). s.op) c.args.suspects.now) c.loop-k.k c.loop-k.faults.items
    (omega (arith, length-map c.args.suspects.now (λ (s : Suspect). s.op))) c.loop-k.invariant.faults
