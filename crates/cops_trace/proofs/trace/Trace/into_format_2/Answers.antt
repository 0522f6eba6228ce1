use Rattle.cops_trace.proofs.Keeping.{kept_in_2}
use Rattle.cops_trace.proofs.trace.Trace.into_format_2.Goals as goal

pub invariant_of-result : goal.invariant_of-result
invariant_of-result c = kept_in_2 c.self.inside.format c.self.inside.history.sessions c.self.inside.arrivals.items c.self.invariant
