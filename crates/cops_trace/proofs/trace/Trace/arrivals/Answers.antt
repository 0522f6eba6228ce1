use Rattle.std.proofs.Common.{sym, ◌∙◌, []}
use Rattle.cops_trace.proofs.Keeping.{clients-records_from}
use Rattle.cops_trace.proofs.trace.Trace.arrivals.Goals as goal

pub returns : goal.returns
returns c = rw (← c.self.view_is) (c.as_slice.ensures.value ∙ sym (clients-records_from c.self.inside.history.sessions [] c.self.inside.arrivals.items))
