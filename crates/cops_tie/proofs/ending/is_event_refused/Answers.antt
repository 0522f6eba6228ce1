use Rattle.std.proofs.Common.{◌≡◌, ap₂, subst}
use Rattle.cops_node.specs.declared.outcome.Outcome.{Outcome}
use Rattle.cops_core.specs.World.{Setting, World, Happens, act_of}
use Rattle.cops_core.specs.Opened.{AWorld}
use Rattle.cops_tie.proofs.ending.is_event_refused.Goals as goal

same_cluster : (a b : AWorld) → a.setting ≡ b.setting → a.world ≡ b.world → a ≡ b
same_cluster a b e f = ap₂ (λ (s : Setting) (w : World). let c : AWorld = record { setting = s; world = w } in c) e f

pub returns-in-Refused-clause-stays : goal.returns-in-Refused-clause-stays
returns-in-Refused-clause-stays c = λ yes.
    let old = c.args.world.now in
    let new = c.answer-outcome.new.self in
    let happens = subst (λ (o : Outcome). Happens old.setting old.world (act_of c.args.event.now) o new.world) c.in-Refused.is c.answer-outcome.ensures.event in
    same_cluster new old c.answer-outcome.ensures.setting
    (c.every_interleaving_is_accepted.ensures.refused old.setting old.world new.world (act_of c.args.event.now) c.in-Refused.answered happens)
