use Rattle.std.proofs.Common.{◌≡◌, map, take}
use Rattle.serde_json.specs.View.{view}
use Rattle.cops_explain_json.specs.Operations.{operation_json, seen}
use Rattle.cops_explain_json.proofs.operations.operations_json.Given as goal

abbrev pub invariant-loop-op : goal.invariant-loop-op
invariant-loop-op l = map view l.list.items ≡ map (operation_json (seen l.named)) (take l.op-index l.ops)
