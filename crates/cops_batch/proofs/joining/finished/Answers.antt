use Rattle.cops_batch.proofs.Cuts.{held_at}
use Rattle.cops_batch.proofs.joining.finished.Goals as goal

pub returns-in-Held-clause-err : goal.returns-in-Held-clause-err
returns-in-Held-clause-err g c =
    held_at (g.G.Gate.may_hold c.args.gate.now) _ _ _ c.loop-piece-test.true c.piece-item.is c.in-Held.is c.requires.pieces c.requires.held
