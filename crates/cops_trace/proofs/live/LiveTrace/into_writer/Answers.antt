use Rattle.cops_trace.proofs.Begun.{cut_begun}
use Rattle.cops_trace.proofs.live.LiveTrace.into_writer.Goals as goal

pub returns-clause-cut : goal.returns-clause-cut
returns-clause-cut g c = rw c.into_writer.ensures (cut_begun _ _ _ _ _ c.requires.wrote)
