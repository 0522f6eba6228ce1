use Rattle.std.proofs.Common.{subst}
use Rattle.cops_types.specs.Histories.{Sessions}
use Rattle.cops_report.specs.Reported.{IsReportOf}
use Rattle.cops_run_command.proofs.leaving.reported_left.Goals as goal

pub returns-clause-text : goal.returns-clause-text
returns-clause-text c =
    let reported = c.in_ok-report_of.ensures in
    let report = c.in_ok-report_of.field-0.items in
    (reported.0, report, subst (λ (h : Sessions). IsReportOf h reported.0 report) c.history.ensures.sessions reported.1, rw c.deref.ensures.value at c.in_ok-extend_from_slice.ensures.items)
