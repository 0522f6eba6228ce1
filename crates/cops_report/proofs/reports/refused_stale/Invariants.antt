use Rattle.std.proofs.Common.{take, length}
use Rattle.std.specs.Prelude.{string_bytes}
use Rattle.cops_types.specs.Counts.{count_of, put_count}
use Rattle.cops_report.specs.Reports.{refused_line}
use Rattle.cops_report.proofs.StaleLemmas.{AddsStaleLines}
use Rattle.cops_report.proofs.reports.refused_stale.Given as goal

abbrev pub invariant-loop-fault : goal.invariant-loop-fault
invariant-loop-fault l =
    AddsStaleLines l.history.sessions (take l.fault-index l.faults) (refused_line (count_of l.history.sessions) (put_count l.history.sessions) (length l.faults)) (string_bytes l.text)
