use Rattle.std.proofs.Common.{◌∙◌}
use Rattle.cops_trace.proofs.Keeping.{kept_turn}
use Rattle.cops_trace.proofs.trace.Trace.turn.Goals as goal

pub returns : goal.returns
returns c = rw (← c.self.view_is) (c.session_len.ensures.count ∙ kept_turn c.self.inside.format c.self.inside.history.sessions c.self.inside.arrivals.items c.args.client c.self.invariant)
