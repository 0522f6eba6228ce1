use Rattle.std.proofs.Common.{◌≡◌, ◌≤◌, length, take, vec_capacity}
use Rattle.cops_core.specs.Memory.{AnswersEach}
use Rattle.cops_core.proofs.world.World.run.Given as goal

abbrev pub invariant-loop-event : goal.invariant-loop-event
invariant-loop-event l = record {
  setting : l.self.setting ≡ l.fn.self.setting;
  ran : AnswersEach l.fn.self.setting l.fn.self.world (take l.event-index l.events) l.outcomes.items l.self.world;
  answered : length l.outcomes.items ≡ l.event-index;
  room : length l.events ≤ vec_capacity l.outcomes;
}
