use Rattle.std.proofs.Common.{◌≡◌, true, arith}
use Rattle.cops_audit.proofs.Sweeping.{grows_on}
use Rattle.cops_audit.proofs.sweep.Sweep.look.Goals as goal

pub returns-then-not-on-clause-grows : goal.returns-then-not-on-clause-grows
returns-then-not-on-clause-grows c = grows_on c.args.analysis.now.table.now c.args.analysis.now.summaries.now c.args.self.now c.loop-index.self c.look_at.new.self c.loop-index.invariant.grows c.in_ok-on.ensures.grows

pub loop-index-preserved : goal.loop-index-preserved
loop-index-preserved c = record {
  sweeping = c.in_ok-on.ensures.on (let t : c.in_ok-on.on ≡ true = cc in t);
  grows = grows_on c.args.analysis.now.table.now c.args.analysis.now.summaries.now c.args.self.now c.loop-index.self c.look_at.new.self c.loop-index.invariant.grows c.in_ok-on.ensures.grows;
  work = omega (arith, c.in_ok-on.ensures.work, c.loop-index.invariant.work);
  room = λ space room. (c.in_ok-on.ensures.room space (c.loop-index.invariant.room space room)).1;
}
