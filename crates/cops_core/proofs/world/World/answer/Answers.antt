use Rattle.cops_core.specs.Acts.{act_of}
use Rattle.cops_core.proofs.Running.{reached_more}
use Rattle.cops_core.proofs.Worlds.{reached_steps}
use Rattle.cops_core.proofs.world.World.answer.Goals as goal

pub invariant_of-self : goal.invariant_of-self
invariant_of-self c = record {
  setting = c.self.invariant.setting;
  reached = reached_more c.self.inside.setting c.self.inside.state c.step.new.self c.args.event.now c.step.result c.self.invariant.reached c.step.ensures.happens;
}

pub returns-clause-step : goal.returns-clause-step
returns-clause-step c =
    rw (← c.self.view_is)
    (reached_steps c.self.inside.setting c.self.invariant.setting c.self.inside.state c.self.invariant.reached (act_of c.args.event.now) c.step.result c.step.new.self c.step.ensures.happens)
