use Rattle.std.proofs.Common.{length}
use Rattle.cops.proofs.progress.FrameRecords.take.Given as goal

abbrev pub decreases-loop-body : goal.decreases-loop-body
decreases-loop-body l = length l.self.rest
