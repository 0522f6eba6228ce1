use Rattle.std.proofs.Common.{ℕ, arith}
use Rattle.cops_types.specs.declared.op.OpName.{OpName}
use Rattle.cops_types.specs.Faults.{IsNewer}
use Rattle.cops_audit.specs.declared.window.Suspect.{Suspect}
use Rattle.cops_audit.proofs.Bridging.{none_reported, stale_reported}
use Rattle.cops_audit.proofs.Collect.{each_next}
use Rattle.cops_audit.proofs.Flooring.{none_at, some_at}
use Rattle.cops_audit.proofs.stale.has_stale.Goals as goal

pub loop-k-preserved : goal.loop-k-preserved
loop-k-preserved c =
    let h = c.args.analysis.now.history.now.sessions in
    let table = c.args.analysis.now.table.now in
    let none : Suspect = record { op = record { client = 0; index = 0 }; first = 0; from = 0 } in
    record {
      none = each_next (λ (s : Suspect). (newer : OpName) (version : ℕ) → ¬ IsNewer h s.op newer version) c.args.suspects.now c.loop-k.k none (omega arith) c.loop-k.invariant.none
          (none_reported h table c.requires.analysis.table c.args.analysis.now.firsts.now c.requires.analysis.firsts c.args.analysis.now.summaries.now c.requires.analysis.summaries c.requires.analysis.sources _ (c.requires.suspects.each c.loop-k.k none (omega arith))
          (none_at _ c.in_ok-found.found c.in_default.is c.in_ok-found.ensures.none none));
      after = c.in_ok-found.ensures.after;
      room = λ space room. (c.in_ok-found.ensures.room space (c.loop-k.invariant.room space room)).1;
    }

pub returns-in-Some-clause-stale : goal.returns-in-Some-clause-stale
returns-in-Some-clause-stale c = λ _.
    let none : Suspect = record { op = record { client = 0; index = 0 }; first = 0; from = 0 } in
    let found = some_at _ c.in_ok-found.found c.in-Some._place c.in-Some.is c.in_ok-found.ensures.found none in (
      _,
      _,
      stale_reported c.args.analysis.now.history.now.sessions c.args.analysis.now.table.now c.requires.analysis.table c.args.analysis.now.firsts.now c.requires.analysis.firsts c.args.analysis.now.summaries.now c.requires.analysis.summaries c.requires.analysis.sources _ (c.requires.suspects.each c.loop-k.k none (omega arith))
          c.in-Some._place found.1 found.0,
    )

pub returns-clause-none : goal.returns-clause-none
returns-clause-none c = λ _ k d less. c.loop-k.invariant.none k d (omega (arith, less))
