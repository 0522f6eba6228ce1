use Rattle.cops_report.proofs.reports.report_of.Goals as goal

pub returns : goal.returns
returns c = (c.in_ok-ordered.ordered.verdict, record { is_verdict = c.in_ok-ordered.ensures.verdict; is_report = c.in_ok-report_by.ensures })
