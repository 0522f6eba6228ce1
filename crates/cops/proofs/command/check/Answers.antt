use Rattle.cops_types.specs.Counted.{inner}
use Rattle.cops_check.specs.Check.{WritesChecked}
use Rattle.cops_audit_commands.specs.declared.audit.Answer.TheVariants as answer
use Rattle.cops.proofs.Kept.{explains, explains_accepted, printed}
use Rattle.cops.proofs.command.check.Goals as goal

pub returns-clause-accepted : goal.returns-clause-accepted
returns-clause-accepted g c = λ is.
    explains_accepted _ c.args.request.is_drawn _ _ _ c.check_stream-checked.result _ _
    (c.checked_status-status.ensures.accepted is) c.check_stream-checked.ensures.ok c.check_stream-checked.ensures.drawn c.check_stream-checked.ensures.accepted

pub returns-clause-refused : goal.returns-clause-refused
returns-clause-refused g c = λ is.
    explains _ c.args.request.is_drawn _ _ answer.Refused c.check_stream-checked.result _ _
    (c.checked_status-status.ensures.refused is) c.check_stream-checked.ensures.ok c.check_stream-checked.ensures.drawn

pub returns-clause-faulty : goal.returns-clause-faulty
returns-clause-faulty g c = λ is.
    printed (g.I.Read.remaining (inner c.args.input.now))
    (λ bytes given. WritesChecked c.args.is_ranked c.args.request bytes given (g.W.Write.contents (inner c.args.outputs.out)) (g.W.Write.contents (inner c.check_stream-checked.new.writer)))
    answer.Faulty c.check_stream-checked.result _ _ (c.checked_status-status.ensures.faulty is) c.check_stream-checked.ensures.ok
