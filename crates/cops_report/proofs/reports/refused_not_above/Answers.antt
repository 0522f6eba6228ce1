use Rattle.std.proofs.Common.{length, refl}
use Rattle.cops_types.specs.Counts.{count_of, put_count}
use Rattle.cops_audit.specs.declared.verdict.NotAbove.{NotAbove}
use Rattle.cops_report.specs.Reports.{not_above_line, refused_line}
use Rattle.cops_report.proofs.LineLemmas.{lines_more}
use Rattle.cops_report.proofs.reports.refused_not_above.Goals as goal

abbrev first : NotAbove
first = record { op = record { client = 0; index = 0 }; earlier = record { client = 0; index = 0 } }

pub loop-fault-preserved : goal.loop-fault-preserved
loop-fault-preserved c =
    let h = c.args.history.now.sessions in
    lines_more (not_above_line h) (refused_line (count_of h) (put_count h) (length c.args.faults.now)) _ _ _ c.args.faults.now c.loop-fault.fault-index first c.loop-fault-test.true
    c.in_ok-writeln.ensures.bytes (rw (c.version_at-own.ensures, c.version_at-other.ensures) refl) c.loop-fault.invariant
