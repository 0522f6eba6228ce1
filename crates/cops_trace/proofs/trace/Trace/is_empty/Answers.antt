use Rattle.std.proofs.Common.{sym, ap, ◌∙◌, [], eqb, ℕ}
use Rattle.cops_trace.proofs.Keeping.{length-records_from}
use Rattle.cops_trace.proofs.trace.Trace.is_empty.Goals as goal

pub returns : goal.returns
returns c =
    let len = c.self.inside.arrivals.ok.0 ∙ sym (length-records_from c.self.inside.history.sessions [] c.self.inside.arrivals.items) in
    rw (← c.self.view_is) (c.is_empty.ensures ∙ ap (λ (n : ℕ). eqb n 0) len)
