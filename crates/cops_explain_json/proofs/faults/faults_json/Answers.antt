use Rattle.std.proofs.Common.{◌∙◌, [], ◌∷◌, map, sym}
use Rattle.std.proofs.lemmas.List.{map-append}
use Rattle.serde_json.specs.View.{view}
use Rattle.cops_audit.specs.Faults.{faults_of}
use Rattle.cops_explain.proofs.FaultLemmas.{verdict_fault}
use Rattle.cops_explain.specs.Refused.{history_of}
use Rattle.cops_explain_json.proofs.FaultLists.{fault_more, faults_past}
use Rattle.cops_explain_json.proofs.faults.faults_json.Goals as goal
use Rattle.cops_explain_json.proofs.faults.faults_json.Goals.{in-Some+in_ok-json+in_ok-push, in_default}

pub fault_json-requires-clause-fault : goal.fault_json-requires-clause-fault
fault_json-requires-clause-fault c =
    verdict_fault (history_of c.args.refused).sessions c.args.refused.faults.now c.requires.faults c.loop-place.place c.in-Some.fault (sym c.get.ensures ∙ c.in-Some.is)

pub loop-place-preserved : goal.loop-place-preserved
loop-place-preserved c =
    let named = history_of c.args.refused in
    let faults = faults_of c.args.refused.faults.now in
    let place = c.loop-place.place in
    let list = c.loop-place.list.items in
    elim c.match-get.branch [
      | in-Some+in_ok-json+in_ok-push w ↦
          rw (w.list-is, w.in_ok-push.ensures.items, map-append view list (w.in_ok-json.json ∷ []))
          (fault_more named faults place w.in-Some.fault (map view list) (view w.in_ok-json.json) (sym c.get.ensures ∙ w.in-Some.is) c.loop-place.invariant w.in_ok-json.ensures)
      | in_default w ↦ rw w.list-is (faults_past named faults place (map view list) (sym c.get.ensures ∙ w.in_default.is) c.loop-place.invariant)
    ]
