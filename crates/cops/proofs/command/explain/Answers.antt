use Rattle.cops_audit_commands.specs.declared.audit.Answer.TheVariants as answer
use Rattle.cops.proofs.Kept.{explains, explains_accepted}
use Rattle.cops.proofs.command.explain.Goals as goal

pub returns-clause-accepted : goal.returns-clause-accepted
returns-clause-accepted g c = λ is.
    explains_accepted _ c.args.request.is_drawn _ _ _ c.explain_stream-explained.result _ _
    (c.explained_status-status.ensures.accepted is) c.explain_stream-explained.ensures.ok c.explain_stream-explained.ensures.drawn c.explain_stream-explained.ensures.accepted

pub returns-clause-refused : goal.returns-clause-refused
returns-clause-refused g c = λ is.
    explains _ c.args.request.is_drawn _ _ answer.Refused c.explain_stream-explained.result _ _
    (c.explained_status-status.ensures.refused is) c.explain_stream-explained.ensures.ok c.explain_stream-explained.ensures.drawn
