use Rattle.std.proofs.Common.{sym}
use Rattle.cops_report.proofs.reports.accepted.Goals as goal

pub returns : goal.returns
returns c = rw (sym c.len-operations.ensures.count, sym c.puts-puts.ensures.count) c.format.ensures.ok
