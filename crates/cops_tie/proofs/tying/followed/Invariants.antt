use Rattle.std.proofs.Common.{◌≡◌, ℕ, map, take, drop}
use Rattle.cops_core.specs.World.{World}
use Rattle.cops_tie.specs.Tie.{event_of, Follows}
use Rattle.cops_tie.specs.Untied.{StopsAt}
use Rattle.cops_tie.specs.Ticketed.{shown}
use Rattle.cops_tie.proofs.tying.followed.Given as goal

abbrev pub invariant-loop-i : goal.invariant-loop-i
invariant-loop-i l = record {
  setting : l.world.setting ≡ l.fn.world.setting;
  events : l.events.items ≡ map event_of (take l.i (map shown l.order));
  onward : (end : World) → Follows l.fn.setting l.world.world (drop l.i (map shown l.order)) end → Follows l.fn.setting l.fn.world.world (map shown l.order) end;
  stops : (t : ℕ) → StopsAt l.fn.setting l.world.world (drop l.i (map shown l.order)) t → StopsAt l.fn.setting l.fn.world.world (map shown l.order) t;
}
