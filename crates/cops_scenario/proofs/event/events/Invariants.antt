use Rattle.std.proofs.Common.{◌≡◌, ◌≤◌, All, length, map, take}
use Rattle.serde_json.specs.View.{view}
use Rattle.cops_scenario.specs.File.{event_json}
use Rattle.cops_scenario.specs.Limits.{IsLegalEvent}
use Rattle.cops_scenario.proofs.event.events.Given as goal

abbrev pub invariant-loop-item : goal.invariant-loop-item
invariant-loop-item l =
    (length l.events.items ≡ l.item-index) × (length l.item-items ≤ l.most)
    × (map view (take l.item-index l.item-items) ≡ map event_json l.events.items) × All (IsLegalEvent l.format) l.events.items
