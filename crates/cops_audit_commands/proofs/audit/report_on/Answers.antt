use Rattle.std.proofs.Common.{subst}
use Rattle.cops_types.specs.Histories.{Sessions}
use Rattle.cops_audit.specs.Verdicts.{IsVerdict}
use Rattle.cops_report.specs.Reports.{IsReport}
use Rattle.cops_audit_commands.proofs.audit.report_on.Goals as goal

pub returns : goal.returns
returns c = λ t same. record {
  verdict = c.args.ordered.now.verdict;
  is_report = record {
    is_verdict = subst (λ (s : Sessions). IsVerdict s c.args.ordered.now.verdict) same c.requires.verdict;
    is_report = subst (λ (s : Sessions). IsReport s c.args.ordered.now.verdict c.in_ok-text.text.items) same c.in_ok-text.ensures;
  };
  answer_is = c.answer_of.ensures;
}
