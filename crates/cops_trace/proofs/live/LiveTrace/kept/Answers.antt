use Rattle.cops_trace.proofs.Begun.{cut_begun}
use Rattle.cops_trace.proofs.live.LiveTrace.kept.Goals as goal

pub returns-in-Err-clause-cut : goal.returns-in-Err-clause-cut
returns-in-Err-clause-cut g c = rw c.give_up.ensures.writer (cut_begun _ _ _ _ _ c.requires.wrote)
