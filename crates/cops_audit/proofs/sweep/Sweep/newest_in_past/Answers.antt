use Rattle.std.proofs.Common.{◌≡◌, ◌≤◌, ◌+◌, ◌-◌, List, Some, get_or, arith, rules, map, length}
use Rattle.cops_types.specs.declared.op.OpName.{OpName}
use Rattle.cops_audit.specs.declared.summaries.Summary.{Summary}
use Rattle.cops_audit.specs.Summaries.{summary_at}
use Rattle.cops_audit.proofs.Bridging.{analysis_rising, analysis_suspect}
use Rattle.cops_audit.proofs.Fitting.{no_ok, summarized_inside}
use Rattle.cops_audit.proofs.Closing.{raised_sweeping, raised_about, grown_about, none_from, newest_in}
use Rattle.cops_audit.proofs.sweep.Sweep.newest_in_past.Goals as goal

-- an operation with a summary is within its session
within : (summaries : List (List Summary)) (name : OpName) (summary : Summary) → summary_at summaries name ≡ Some summary → name.index ≤ get_or (map length summaries) name.client 0
within summaries name summary at = let l = summarized_inside summaries name summary at in omega (arith, l)

pub drain-requires-clause-sweeping : goal.drain-requires-clause-sweeping
drain-requires-clause-sweeping c = raised_sweeping c.args.analysis.now.table.now c.args.analysis.now.summaries.now c.args.analysis.now.firsts.now c.args.floor c.args.self.now c.raise.new.self c.args.suspect.op c.in_ok-raise.ensures.raises c.requires.sweeping

pub returns-then-newest-suspect-clause-about : goal.returns-then-newest-suspect-clause-about
returns-then-newest-suspect-clause-about c = grown_about c.args.analysis.now.table.now c.args.analysis.now.summaries.now c.raise.new.self c.drain.new.self c.args.suspect.op c.in_ok-drain.ensures.grows
    (raised_about c.args.analysis.now.table.now c.args.analysis.now.summaries.now c.args.analysis.now.firsts.now c.args.floor c.args.self.now c.raise.new.self c.args.suspect.op c.in_ok-raise.ensures.raises (analysis_suspect c.args.analysis.now c.requires.analysis c.args.suspect c.requires.suspect).summary (analysis_suspect c.args.analysis.now c.requires.analysis c.args.suspect c.requires.suspect).at c.requires.about)

pub returns-else-newest-suspect-clause-about : goal.returns-else-newest-suspect-clause-about
returns-else-newest-suspect-clause-about c = grown_about c.args.analysis.now.table.now c.args.analysis.now.summaries.now c.raise.new.self c.drain.new.self c.args.suspect.op c.in_ok-drain.ensures.grows
    (raised_about c.args.analysis.now.table.now c.args.analysis.now.summaries.now c.args.analysis.now.firsts.now c.args.floor c.args.self.now c.raise.new.self c.args.suspect.op c.in_ok-raise.ensures.raises (analysis_suspect c.args.analysis.now c.requires.analysis c.args.suspect c.requires.suspect).summary (analysis_suspect c.args.analysis.now c.requires.analysis c.args.suspect c.requires.suspect).at c.requires.about)

pub returns-then-newest-suspect-clause-found : goal.returns-then-newest-suspect-clause-found
returns-then-newest-suspect-clause-found c =
    let is : get_or c.drain.new.self.newest c.args.suspect.first 0 ≡ c.get-newest.result - 1 + 1 = omega (arith, c.get-newest.ensures, c.if-newest-suspect.true) in
    let le : c.args.suspect.from ≤ c.get-newest.result - 1 = omega (arith, c.if-newest-suspect.true) in (
      le,
      newest_in c.args.analysis.now.table.now c.args.analysis.now.summaries.now (analysis_rising c.args.analysis.now c.requires.analysis) c.args.analysis.now.firsts.now c.args.floor c.drain.new.self c.in_ok-drain.ensures.sweeping c.in_ok-drain.ensures.empty
          c.args.suspect.op c.args.suspect.from c.requires.low (λ n client less. c.in_ok-drain.ensures.grows.kept n (c.in_ok-raise.ensures.raises.raised n client less)) (analysis_suspect c.args.analysis.now c.requires.analysis c.args.suspect c.requires.suspect).source c.args.suspect.first (c.get-newest.result - 1) is le
          (grown_about c.args.analysis.now.table.now c.args.analysis.now.summaries.now c.raise.new.self c.drain.new.self c.args.suspect.op c.in_ok-drain.ensures.grows
          (raised_about c.args.analysis.now.table.now c.args.analysis.now.summaries.now c.args.analysis.now.firsts.now c.args.floor c.args.self.now c.raise.new.self c.args.suspect.op c.in_ok-raise.ensures.raises (analysis_suspect c.args.analysis.now c.requires.analysis c.args.suspect c.requires.suspect).summary (analysis_suspect c.args.analysis.now c.requires.analysis c.args.suspect c.requires.suspect).at c.requires.about)),
    )

pub returns-else-newest-suspect-clause-none : goal.returns-else-newest-suspect-clause-none
returns-else-newest-suspect-clause-none c =
    none_from c.args.analysis.now.table.now c.args.analysis.now.summaries.now (analysis_rising c.args.analysis.now c.requires.analysis) c.args.analysis.now.firsts.now c.args.floor c.drain.new.self c.in_ok-drain.ensures.sweeping c.in_ok-drain.ensures.empty
    c.args.suspect.op c.args.suspect.from c.requires.low (λ n client less. c.in_ok-drain.ensures.grows.kept n (c.in_ok-raise.ensures.raises.raised n client less)) (analysis_suspect c.args.analysis.now c.requires.analysis c.args.suspect c.requires.suspect).source c.args.suspect.first (omega (arith, c.get-newest.ensures, c.if-newest-suspect.false))

pub returns-then-newest-suspect-clause-room : goal.returns-then-newest-suspect-clause-room
returns-then-newest-suspect-clause-room c = λ space room.
    let op = within c.args.analysis.now.summaries.now c.args.suspect.op (analysis_suspect c.args.analysis.now c.requires.analysis c.args.suspect c.requires.suspect).summary (analysis_suspect c.args.analysis.now c.requires.analysis c.args.suspect c.requires.suspect).at in
    (search rules, (c.in_ok-drain.ensures.room space (c.in_ok-raise.ensures.room space (map length c.args.analysis.now.summaries.now) op room).1).1)

pub returns-else-newest-suspect-clause-room : goal.returns-else-newest-suspect-clause-room
returns-else-newest-suspect-clause-room c = λ space room.
    let op = within c.args.analysis.now.summaries.now c.args.suspect.op (analysis_suspect c.args.analysis.now c.requires.analysis c.args.suspect c.requires.suspect).summary (analysis_suspect c.args.analysis.now c.requires.analysis c.args.suspect c.requires.suspect).at in
    (search rules, (c.in_ok-drain.ensures.room space (c.in_ok-raise.ensures.room space (map length c.args.analysis.now.summaries.now) op room).1).1)

pub returns-in_err-raise-clause-room : goal.returns-in_err-raise-clause-room
returns-in_err-raise-clause-room c = λ space room.
    let op = within c.args.analysis.now.summaries.now c.args.suspect.op (analysis_suspect c.args.analysis.now c.requires.analysis c.args.suspect c.requires.suspect).summary (analysis_suspect c.args.analysis.now c.requires.analysis c.args.suspect c.requires.suspect).at in
    no_ok (c.in_err-raise.ensures.room space (map length c.args.analysis.now.summaries.now) op room).0

pub returns-in_err-drain-clause-room : goal.returns-in_err-drain-clause-room
returns-in_err-drain-clause-room c = λ space room.
    let op = within c.args.analysis.now.summaries.now c.args.suspect.op (analysis_suspect c.args.analysis.now c.requires.analysis c.args.suspect c.requires.suspect).summary (analysis_suspect c.args.analysis.now c.requires.analysis c.args.suspect c.requires.suspect).at in
    no_ok (c.in_err-drain.ensures.room space (c.in_ok-raise.ensures.room space (map length c.args.analysis.now.summaries.now) op room).1).0
