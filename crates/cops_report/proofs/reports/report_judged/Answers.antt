use Rattle.std.proofs.Common.{Vec, Global, subst}
use Rattle.cops_audit.specs.declared.verdict.Verdict.{Verdict}
use Rattle.cops_report.specs.Reports.{IsReport}
use Rattle.cops_report.proofs.SameReports.{ok_too, one_report}
use Rattle.cops_report.proofs.reports.report_judged.Goals as goal

pub returns : goal.returns
returns c = λ h is.
    let own = c.history.result.now.sessions in
    let judged = c.args.judged.now in
    ok_too (λ (text : Vec _ Global). IsReport own c.verdict.result.now text.items) (λ text. IsReport h judged.verdict text.items)
    (λ text reported. one_report own h judged c.history.ensures is text.items (subst (λ (v : Verdict). IsReport own v text.items) c.verdict.ensures reported)) c.report_by.result c.report_by.ensures
