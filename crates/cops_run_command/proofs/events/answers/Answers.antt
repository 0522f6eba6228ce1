use Rattle.std.proofs.Common.{ap, ◌∙◌}
use Rattle.cops_scenario.specs.Scenario.{setting_of}
use Rattle.cops_core.specs.Opened.{opened_world}
use Rattle.cops_run_command.proofs.Left.{answered}
use Rattle.cops_run_command.proofs.events.answers.Goals as goal

pub returns : goal.returns
returns c =
    answered (setting_of c.args.scenario.now) c.in_ok-world.world c.run.new.self c.args.events.now c.in_ok-outcomes.outcomes.items c.into_history.result.sessions
    (c.in_ok-world.ensures ∙ ap opened_world c.in_ok-setting.ensures) c.run.ensures.setting c.in_ok-outcomes.ensures.memory c.into_history.ensures.sessions
    c.into_history.ensures.accepted c.into_history.ensures.in_format
