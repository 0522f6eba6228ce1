-- What the parts of running a scenario return.
use Rattle.std.specs.Prelude.{◌≡◌, List}
use Rattle.cops_node.specs.declared.outcome.Outcome.{Outcome}
use Rattle.cops_core.specs.declared.event.Event.{Event}
use Rattle.cops_core.specs.World.{Setting, World, opening}
use Rattle.cops_core.specs.Memory.{AnswersEach}
use Rattle.cops_types.specs.Format.{AreInFormat}
use Rattle.cops_types.specs.Histories.{Sessions}
use Rattle.cops_types.specs.Verdicts.{HasAcceptedVerdict}
use Rattle.cops_scenario.specs.Scenario.{AScenario}
use Rattle.cops_run_command.specs.declared.leaving.Left.{Left}
use Rattle.cops_run_command.specs.Running.{IsLeft}

-- a new world gives these outcomes to these events, `Memory` only where an answer allocates; its clients saw these sessions, on which the verdict is accepted
abbrev pub AreAnswers : Setting → List Event → List Outcome → Sessions → Type 0
AreAnswers s events outcomes h = (end : World) × AnswersEach s (opening s) events outcomes end × (end.sessions ≡ h) × HasAcceptedVerdict h × AreInFormat s.format h

-- a run of the scenario, and its text
abbrev pub IsRunLeft : AScenario → Left → Type 0
IsRunLeft s left = IsLeft s left.trace left.text.items
