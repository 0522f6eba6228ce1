use Rattle.std.proofs.Common.{sym}
use Rattle.cops_trace.proofs.finding.record_found.Goals as goal

pub returns-in-Some : goal.returns-in-Some
returns-in-Some c = sym (c.in-Some.ensures.some c.args.entry.op c.args.used)

pub returns-in-None : goal.returns-in-None
returns-in-None c = sym (c.in-None.ensures.none c.args.entry.op c.args.used)
