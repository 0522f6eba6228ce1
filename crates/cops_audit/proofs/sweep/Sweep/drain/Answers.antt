use Rattle.std.proofs.Common.{refl, arith, map, length}
use Rattle.cops_audit.proofs.Bridging.{analysis_rising}
use Rattle.cops_audit.proofs.Fitting.{room_popped}
use Rattle.cops_audit.proofs.Sweeping.{grows_on, none_popped, popped}
use Rattle.cops_audit.proofs.sweep.Sweep.drain.Goals as goal

pub look-requires-clause-sweeping : goal.look-requires-clause-sweeping
look-requires-clause-sweeping c = popped c.args.analysis.now.table.now c.args.analysis.now.summaries.now (analysis_rising c.args.analysis.now c.requires.analysis) c.args.analysis.now.firsts.now c.args.floor c.loop-range.self _ c.in-Some.range refl refl c.in-Some.ensures.items c.loop-range.invariant.sweeping

pub loop-range-preserved : goal.loop-range-preserved
loop-range-preserved c = record {
  sweeping = c.in_ok-look.ensures.sweeping;
  grows = grows_on c.args.analysis.now.table.now c.args.analysis.now.summaries.now c.args.self.now c.loop-range.self c.look.new.self c.loop-range.invariant.grows (record { kept = c.in_ok-look.ensures.grows.kept; past = c.in_ok-look.ensures.grows.past });
  room = λ space room. (c.in_ok-look.ensures.room space
      (room_popped space (map length c.args.analysis.now.summaries.now) c.loop-range.self _ refl refl (omega (arith, c.in-Some.ensures.len)) c.in-Some.ensures.capacity (c.loop-range.invariant.room space room))).1;
}

pub returns-clause-sweeping : goal.returns-clause-sweeping
returns-clause-sweeping c =
    none_popped c.args.analysis.now.table.now c.args.analysis.now.summaries.now (analysis_rising c.args.analysis.now c.requires.analysis) c.args.analysis.now.firsts.now c.args.floor c.loop-range.self c.pop.new.self c.in_default.ensures.items c.loop-range.invariant.sweeping
