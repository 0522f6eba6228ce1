use Rattle.std.proofs.Common.{take}
use Rattle.cops_trace.proofs.Arriving.{IsPartly}
use Rattle.cops_trace.proofs.trace.is_trace.Given as goal

abbrev pub invariant-loop-n : goal.invariant-loop-n
invariant-loop-n l = IsPartly l.format l.history.sessions (take l.n l.arrivals) l.counts
