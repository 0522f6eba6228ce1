use Rattle.std.proofs.Common.{◌≡◌, Bool, true, false, sym, subst}
use Rattle.cops_core.specs.declared.event.Event.{Event}
use Rattle.cops_core.specs.World.{Setting, Happens, act_of}
use Rattle.cops_tie.proofs.tying.continued.Goals as goal

true_is_false : (b : Bool) → b ≡ true → b ≡ false → ⊥
true_is_false b e f = cc

pub returns-in-Ok-false-clause-none : goal.returns-in-Ok-false-clause-none
returns-in-Ok-false-clause-none c = λ mid continues.
    let w = c.args.world.now.world in
    let answer = c.args.ticketed.now.entry.now.outcome in
    c.in-Ok-false.ensures.no (λ t. true_is_false _ t c.in-Ok-false.field-0-test) mid (subst (λ (s : Setting). Happens s w (act_of c.in_ok-event.event) answer mid) (sym c.requires)
    (subst (λ (e : Event). Happens c.args.setting.now w (act_of e) answer mid) (sym c.in_ok-event.ensures) continues.happens))
