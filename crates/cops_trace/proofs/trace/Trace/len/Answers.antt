use Rattle.std.proofs.Common.{sym, ◌∙◌, []}
use Rattle.cops_trace.proofs.Keeping.{length-records_from}
use Rattle.cops_trace.proofs.trace.Trace.len.Goals as goal

pub returns-clause-count : goal.returns-clause-count
returns-clause-count c = rw (← c.self.view_is) (c.len.ensures ∙ c.self.inside.arrivals.ok.0 ∙ sym (length-records_from c.self.inside.history.sessions [] c.self.inside.arrivals.items))
