use Rattle.cops_import.proofs.Records.{left_here}
use Rattle.cops_import.proofs.Stops.{if_err}
use Rattle.cops_import.proofs.ending.Ending.take_next.Goals as goal

pub returns-in-None-clause-err : goal.returns-in-None-clause-err
returns-in-None-clause-err g c =
    if_err c.outcome_of.result _ _ (λ e is from ops returned h. left_here g.W.Write.contents from _ c.args.self.now.writer e h.wrote is) c.outcome_of.ensures.err

pub returns-in-Ok-clause-err : goal.returns-in-Ok-clause-err
returns-in-Ok-clause-err g c =
    if_err c.outcome_of-in-Ok.result _ _
    (λ e is from ops returned h. left_here g.W.Write.contents from _ c.take.new.self.writer e (c.in-Ok.ensures.ok from ops returned h).wrote is) c.outcome_of-in-Ok.ensures.err
