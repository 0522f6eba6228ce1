use Rattle.cops_trace.specs.Answer.{Agrees}
use Rattle.cops_audit_commands.specs.Explain.{ExplainSays}
use Rattle.cops_audit_commands.proofs.ReportedText.{reported_writes, reported_prefix}
use Rattle.cops_audit_commands.proofs.ReportedExplained.{accepted_explained, picture_reported}
use Rattle.cops_audit_commands.proofs.explain.explain_stream.Goals as goal

pub returns-in-Ok-clause-ok : goal.returns-in-Ok-clause-ok
returns-in-Ok-clause-ok g c =
    let gained = c.in-Ok.ensures.ok in
    reported_writes (λ bytes. Agrees bytes c.read_trace.result) (ExplainSays c.args.request) _ c.in_ok-explained.field-0.explained.answer _ _ _ c.read_trace.ensures.says c.in_ok-explained.ensures.says (rw c.deref.ensures.value at gained)

pub returns-in-Ok-clause-accepted : goal.returns-in-Ok-clause-accepted
returns-in-Ok-clause-accepted g c =
    accepted_explained (λ bytes. Agrees bytes c.read_trace.result) c.args.request _ c.in_ok-explained.field-0.explained.answer c.in_ok-explained.field-0.text.items c.read_trace.ensures.says c.in_ok-explained.ensures.says

pub returns-in-Err-clause-write_failed : goal.returns-in-Err-clause-write_failed
returns-in-Err-clause-write_failed g c = λ e.
    reported_prefix (λ bytes. Agrees bytes c.read_trace.result) (ExplainSays c.args.request) _ c.in_ok-explained.field-0.explained.answer _ c.in-Err.field-0 _ _ c.read_trace.ensures.says c.in_ok-explained.ensures.says
    (rw c.deref.ensures.value at c.in-Err.ensures.err)

pub returns-in-Ok-clause-drawn : goal.returns-in-Ok-clause-drawn
returns-in-Ok-clause-drawn g c = λ is.
    picture_reported (λ bytes. Agrees bytes c.read_trace.result) c.args.request.faults _ c.in_ok-explained.field-0.explained.picture c.read_trace.ensures.says (c.in_ok-explained.ensures.drawn is)
