use Rattle.std.proofs.Common.{subst}
use Rattle.cops_types.specs.Histories.{Sessions}
use Rattle.cops_audit.specs.Verdicts.{IsVerdict}
use Rattle.cops_audit_commands.specs.Explain.{IsExplainedAs}
use Rattle.cops_audit_commands.proofs.explain.explanation.Goals as goal

pub returns-clause-reported : goal.returns-clause-reported
returns-clause-reported c =
    let verdict = c.in_ok-verdict.verdict in
    record {
      verdict = verdict;
      is_verdict = subst (λ (s : Sessions). IsVerdict s verdict) c.history-history.ensures.sessions c.in_ok-verdict.ensures.verdict;
      is_explained = subst (λ (s : Sessions). IsExplainedAs c.args.request.is_json (record { sessions = s; naming = c.args.naming.now }) verdict c.args.request.faults c.in_ok-text.text.items) c.history-history.ensures.sessions c.in_ok-text.ensures;
      answer_is = c.answer_of-answer.ensures;
    }

pub returns-clause-drawn : goal.returns-clause-drawn
returns-clause-drawn c = λ is.
    let verdict = c.in_ok-verdict.verdict in
    record {
      verdict = verdict;
      is_verdict = subst (λ (s : Sessions). IsVerdict s verdict) c.history-history.ensures.sessions c.in_ok-verdict.ensures.verdict;
      is_drawn = c.in_ok-picture.ensures.drawn is;
    }
