use Rattle.std.proofs.Common.{map, take}
use Rattle.serde_json.specs.View.{view}
use Rattle.cops_audit.specs.Faults.{faults_of}
use Rattle.cops_explain.specs.Refused.{history_of}
use Rattle.cops_explain_json.specs.Faults.{AreFaults}
use Rattle.cops_explain_json.proofs.faults.faults_json.Given as goal

abbrev pub invariant-loop-place : goal.invariant-loop-place
invariant-loop-place l = AreFaults (history_of l.refused) 1 (take l.place (faults_of l.refused.faults.now)) (map view l.list.items)
