use Rattle.std.proofs.Common.{refl, subst, sym}
use Rattle.cops_types.proofs.Climbing.{first_below}
use Rattle.cops_audit.specs.Climbs.{AreMaxima}
use Rattle.cops_audit.proofs.climbing.earlier_not_below.Goals as goal

pub returns-then-is_session_above-clause-none : goal.returns-then-is_session_above-clause-none
returns-then-is_session_above-clause-none c = λ e f.
    let h = c.args.history.now.sessions in
    let found = first_below h e c.args.name f in
    c.is_session_above.ensures.above c.if-is_session_above.true c.args.name found.0 refl found.1

pub first_not_below-requires-clause-maxima : goal.first_not_below-requires-clause-maxima
first_not_below-requires-clause-maxima c = subst (AreMaxima c.args.history.now.sessions _) (sym c.as_slice.ensures.value) c.in_ok-climb.ensures.maxima
