use Rattle.cops_trace.proofs.Begun.{cut_none}
use Rattle.cops_clients.proofs.live.without_memory.Goals as goal

pub returns-clause-cut : goal.returns-clause-cut
returns-clause-cut g c = (0, cut_none _)
