use Rattle.std.proofs.Common.{◌∙◌, sym, arith, refl, rules, map, length}
use Rattle.cops_audit.specs.Sweeps.{next_after}
use Rattle.cops_audit.proofs.Bridging.{analysis_places, analysis_rising, put_inside}
use Rattle.cops_audit.proofs.Fitting.{covered, no_ok}
use Rattle.cops_audit.proofs.Sweeping.{above_few, sweep_on, sweep_grows, none_open, low_range}
use Rattle.cops_audit.proofs.sweep.Sweep.look_at.Goals as goal

pub learn-requires-clause-firsts : goal.learn-requires-clause-firsts
learn-requires-clause-firsts c = analysis_places c.args.analysis.now c.requires.analysis

pub learn-requires-clause-puts : goal.learn-requires-clause-puts
learn-requires-clause-puts c = λ place put version stands.
    let rising = analysis_rising c.args.analysis.now c.requires.analysis in
    let inside = put_inside c.args.analysis.now.table.now c.args.analysis.now.summaries.now rising place put version stands in
    (omega (arith, inside, c.requires.sweeping.clients), rising.small put _ (rising.puts place put version stands).1)

pub learn-requires-clause-seen : goal.learn-requires-clause-seen
learn-requires-clause-seen c = above_few c.args.analysis.now.table.now c.args.analysis.now.summaries.now (analysis_rising c.args.analysis.now c.requires.analysis) (next_after c.args.left) c.in-Some.summary.seen c.in-Some.summary.mark (sym c.requires.summarized ∙ c.in-Some.is)

pub returns-clause-on : goal.returns-clause-on
returns-clause-on c = λ _. sweep_on c.args.analysis.now.table.now c.args.analysis.now.summaries.now (analysis_rising c.args.analysis.now c.requires.analysis) c.args.analysis.now.firsts.now c.args.floor c.args.self.now c.learn.new.self (next_after c.args.left) c.args.left.from c.in-Some.summary c.requires.low (sym c.requires.summarized ∙ c.in-Some.is) c.in_ok-learn.ensures.learns c.requires.sweeping

pub returns-clause-grows : goal.returns-clause-grows
returns-clause-grows c = sweep_grows c.args.analysis.now.table.now c.args.analysis.now.summaries.now (analysis_rising c.args.analysis.now c.requires.analysis) c.args.analysis.now.firsts.now c.args.floor c.args.self.now c.learn.new.self (next_after c.args.left) c.in-Some.summary (sym c.requires.summarized ∙ c.in-Some.is)
    (c.requires.sweeping.open_counted (next_after c.args.left) (refl, c.requires.low, omega arith)) c.in_ok-learn.ensures.learns

pub returns-then-summary-floor-clause-done : goal.returns-then-summary-floor-clause-done
returns-then-summary-floor-clause-done c = λ _. none_open c.args.analysis.now.table.now c.args.analysis.now.summaries.now (analysis_rising c.args.analysis.now c.requires.analysis) c.args.analysis.now.firsts.now c.args.floor c.args.self.now _
    (low_range c.args.analysis.now.table.now c.args.analysis.now.summaries.now (analysis_rising c.args.analysis.now c.requires.analysis) c.args.analysis.now.firsts.now c.args.floor (next_after c.args.left) c.args.left.from c.in-Some.summary (sym c.requires.summarized ∙ c.in-Some.is) c.if-summary-floor.true) c.requires.sweeping

pub returns-clause-room : goal.returns-clause-room
returns-clause-room c = λ space room. (
  search rules,
  (c.in_ok-learn.ensures.room space (map length c.args.analysis.now.summaries.now) (covered c.args.analysis.now.table.now c.args.analysis.now.summaries.now (analysis_rising c.args.analysis.now c.requires.analysis)) room).1,
)

pub returns-in_err-learn-clause-room : goal.returns-in_err-learn-clause-room
returns-in_err-learn-clause-room c = λ space room.
    no_ok (c.in_err-learn.ensures.room space (map length c.args.analysis.now.summaries.now) (covered c.args.analysis.now.table.now c.args.analysis.now.summaries.now (analysis_rising c.args.analysis.now c.requires.analysis)) room).0
