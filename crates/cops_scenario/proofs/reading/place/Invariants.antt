use Rattle.std.proofs.Common.{◌≡◌, All, map, take}
use Rattle.serde_json.specs.View.{view}
use Rattle.cops_types.specs.KeyValue.{IsKey}
use Rattle.cops_json.specs.Json.{text_json}
use Rattle.cops_scenario.proofs.reading.place.Given as goal

abbrev pub invariant-loop-item : goal.invariant-loop-item
invariant-loop-item l = (map view (take l.item-index l.item-items) ≡ map text_json l.keys.items) × All IsKey l.keys.items
