use Rattle.cops_audit_commands.proofs.ReportedExplained.{drawing_says, explained_says}
use Rattle.cops_audit_commands.proofs.ReportedSoFar.{or_fault}
use Rattle.cops_audit_commands.proofs.explain.answered.Goals as goal

pub returns-in-Ok-clause-says : goal.returns-in-Ok-clause-says
returns-in-Ok-clause-says c = λ bytes agrees.
    rw c.or.ensures (or_fault c.explanation.result _ _ (explained_says c.args.request bytes _ (λ reported. reported.explained.answer) (λ reported. reported.text.items) c.explanation.result (rw c.in-Ok.is at agrees) c.explanation.ensures.reported))

pub returns-in-Ok-clause-drawn : goal.returns-in-Ok-clause-drawn
returns-in-Ok-clause-drawn c = λ is bytes agrees.
    rw c.or.ensures (or_fault c.explanation.result _ _ (drawing_says c.args.request.faults bytes _ (λ reported. reported.explained.picture) c.explanation.result (rw c.in-Ok.is at agrees) (c.explanation.ensures.drawn is)))

pub returns-in-Ok-clause-none : goal.returns-in-Ok-clause-none
returns-in-Ok-clause-none c = λ is. rw c.or.ensures (or_fault c.explanation.result _ _ (c.explanation.ensures.none is))
