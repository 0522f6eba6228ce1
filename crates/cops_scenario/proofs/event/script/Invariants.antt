use Rattle.std.proofs.Common.{◌≡◌, ◌≤◌, All, length, map, take}
use Rattle.serde_json.specs.View.{view}
use Rattle.cops_scenario.specs.File.{op_json}
use Rattle.cops_scenario.specs.Limits.{IsLegalOp}
use Rattle.cops_scenario.proofs.event.script.Given as goal

abbrev pub invariant-loop-item : goal.invariant-loop-item
invariant-loop-item l =
    (length l.script.items ≡ l.item-index) × (length l.item-items ≤ l.most)
    × (map view (take l.item-index l.item-items) ≡ map op_json l.script.items) × All (IsLegalOp l.format) l.script.items
