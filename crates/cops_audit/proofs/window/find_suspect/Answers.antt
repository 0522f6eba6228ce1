use Rattle.std.proofs.Common.{sym, subst}
use Rattle.cops_audit.specs.declared.summaries.OpPlace.TheVariants.{Sourceless}
use Rattle.cops_audit.specs.Summaries.{IsSeen}
use Rattle.cops_audit.proofs.Clearing.{clear, no_summary, none_then}
use Rattle.cops_audit.proofs.Reading.{says}
use Rattle.cops_audit.proofs.window.find_suspect.Goals as goal

pub returns-in_default-clause-none : goal.returns-in_default-clause-none
returns-in_default-clause-none c =
    no_summary c.args.analysis.now.history.now.sessions c.args.analysis.now.table.now c.requires.table c.args.analysis.now.summaries.now c.requires.summaries c.requires.sources c.requires.above c.args.op (sym c.in_default.ensures)

pub returns-in-Got-clause-none : goal.returns-in-Got-clause-none
returns-in-Got-clause-none c = none_then c.got_suspect.result c.got_suspect.ensures.none
    (clear c.args.analysis.now.history.now.sessions c.args.analysis.now.table.now c.requires.table c.args.analysis.now.summaries.now c.requires.summaries c.requires.sources c.requires.above c.args.op c.in-Some.summary (sym c.in-Some.ensures))

pub returns-in-Missed-clause-none : goal.returns-in-Missed-clause-none
returns-in-Missed-clause-none c = none_then c.missed_suspect.result c.missed_suspect.ensures.none
    (clear c.args.analysis.now.history.now.sessions c.args.analysis.now.table.now c.requires.table c.args.analysis.now.summaries.now c.requires.summaries c.requires.sources c.requires.above c.args.op c.in-Some.summary (sym c.in-Some.ensures))

seen_of : (c : goal.In-Sourceless) → IsSeen c.args.analysis.now.history.now.sessions c.args.analysis.now.table.now c.args.op (Sourceless c.in-Sourceless.place)
seen_of c = subst (IsSeen c.args.analysis.now.history.now.sessions c.args.analysis.now.table.now c.args.op) c.in-Sourceless.is
    (says c.args.analysis.now.history.now.sessions c.args.analysis.now.table.now c.requires.table c.args.analysis.now.summaries.now c.requires.summaries c.args.op c.in-Some.summary (sym c.in-Some.ensures))

pub waiting_suspect-requires-clause-seen : goal.waiting_suspect-requires-clause-seen
waiting_suspect-requires-clause-seen c = seen_of c

pub waiting_suspect-requires-clause-waiting : goal.waiting_suspect-requires-clause-waiting
waiting_suspect-requires-clause-waiting c = c.requires.sources c.args.op (seen_of c).0

pub returns-in-Sourceless-clause-none : goal.returns-in-Sourceless-clause-none
returns-in-Sourceless-clause-none c = none_then c.waiting_suspect.result c.waiting_suspect.ensures.none
    (clear c.args.analysis.now.history.now.sessions c.args.analysis.now.table.now c.requires.table c.args.analysis.now.summaries.now c.requires.summaries c.requires.sources c.requires.above c.args.op c.in-Some.summary (sym c.in-Some.ensures))
