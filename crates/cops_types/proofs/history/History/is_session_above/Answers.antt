use Rattle.std.proofs.Common.{sym, arith, ◌∙◌}
use Rattle.std.proofs.lemmas.Bool.{false_from_ne_true}
use Rattle.cops_types.proofs.Climbing.{flag_inside}
use Rattle.cops_types.proofs.history.History.is_session_above.Goals as goal

pub returns-clause-there : goal.returns-clause-there
returns-clause-there c = λ is.
    let ups = c.self.invariant.session_maxima in
    rw (← c.self.view_is) (omega (arith, flag_inside c.self.inside.maxima.rise.items c.args.client (sym c.is_above.ensures ∙ is), ups.flags))

pub returns-clause-above : goal.returns-clause-above
returns-clause-above c = λ is. rw (← c.self.view_is) (c.self.invariant.session_maxima.session_above c.args.client (sym c.is_above.ensures ∙ is))

pub returns-clause-not_above : goal.returns-clause-not_above
returns-clause-not_above c = λ no. rw (← c.self.view_is) (λ inside. c.self.invariant.session_maxima.session_not_above c.args.client inside (sym c.is_above.ensures ∙ false_from_ne_true c.is_above.result no))
