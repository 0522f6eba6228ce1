use Rattle.cops_trace.proofs.Begun.{new_begun, new_cut}
use Rattle.cops_trace.proofs.live.LiveTrace.new.Goals as goal

pub returns-in-Err-clause-err : goal.returns-in-Err-clause-err
returns-in-Err-clause-err g c = new_cut _ _ c.args.format _ _ c.ranges.clients.fits c.in-Err.ensures.err

pub kept-requires-clause-wrote : goal.kept-requires-clause-wrote
kept-requires-clause-wrote g c =
    rw c.of-begun.ensures (rw c.new-in-Ok.ensures.items (rw c.in-Ok.ensures.frame (rw c.in-Ok.ensures.counts.0 (rw c.in-Ok.ensures.counts.1 (new_begun _ _ c.args.format _ c.ranges.clients.fits c.in-Ok.ensures.ok)))))
