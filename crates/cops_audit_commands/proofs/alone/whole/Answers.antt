use Rattle.std.proofs.Common.{subst, ◌∙◌, ap}
use Rattle.cops_audit.specs.Judged.{IsJudged}
use Rattle.cops_audit_commands.specs.Audit.{answer_of}
use Rattle.cops_trace.specs.Text.{sessions_of}
use Rattle.cops_types.specs.Histories.{Sessions}
use Rattle.cops_audit_commands.proofs.alone.whole.Goals as goal

pub returns : goal.returns
returns c = λ t fed.
    let judged = c.in_ok-judged.judged in
    let is = subst (λ (h : Sessions). IsJudged h judged) (c.into_online.ensures t fed) c.in_ok-judged.ensures in
    record {
      verdict = judged.verdict;
      is_report = record { is_verdict = is.verdict; is_report = c.in_ok-text.ensures (sessions_of t) is };
      answer_is = c.answer_of.ensures ∙ ap answer_of c.verdict.ensures;
    }
