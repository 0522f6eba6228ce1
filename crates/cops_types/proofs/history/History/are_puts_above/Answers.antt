use Rattle.std.proofs.Common.{sym, ◌∙◌}
use Rattle.std.proofs.lemmas.Bool.{false_from_ne_true}
use Rattle.cops_types.proofs.history.History.are_puts_above.Goals as goal

pub returns-clause-above : goal.returns-clause-above
returns-clause-above c = λ is. rw (← c.self.view_is) (c.self.invariant.session_maxima.above (sym c.are_above.ensures ∙ is))

pub returns-clause-not_above : goal.returns-clause-not_above
returns-clause-not_above c = λ no. rw (← c.self.view_is) (c.self.invariant.session_maxima.not_above (sym c.are_above.ensures ∙ false_from_ne_true c.are_above.result no))
