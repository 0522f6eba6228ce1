use Rattle.std.proofs.Common.{◌≡◌, true}
use Rattle.std.proofs.lemmas.Result.{err_from_is_err_and}
use Rattle.cops_trace.proofs.parser.Parser.advance.Goals as goal

pub returns-in_err-step : goal.returns-in_err-step
returns-in_err-step g c = λ fed h.
    let p = err_from_is_err_and c.from_residual.result c.from_residual.ensures.1 in
    rw (p.1, p.2) (c.in_err-step.ensures.err fed (c.loop.invariant.fed fed h))

pub loop-preserved : goal.loop-preserved
loop-preserved g c =
    let on = c.in_ok-step.ensures.on c.if-branch.true in
    record { underway = on.underway; fed = λ fed h. on.fed fed (c.loop.invariant.fed fed h) }

pub returns : goal.returns
returns g c = λ fed h. c.in_ok-step.ensures.settled (λ is. let f = c.if-branch.false in let t : c.in_ok-step.field-0 ≡ true = is in cc) fed (c.loop.invariant.fed fed h)
