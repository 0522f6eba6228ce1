use Rattle.std.proofs.Common.{◌∙◌, sym}
use Rattle.std.specs.Prelude.{string_bytes}
use Rattle.cops_audit.specs.Faults.{faults_of}
use Rattle.cops_explain.specs.Refused.{history_of}
use Rattle.cops_explain.proofs.FaultLemmas.{verdict_fault}
use Rattle.cops_explain.proofs.ParagraphLemmas.{none_added, paragraph_more, paragraphs_past}
use Rattle.cops_explain.proofs.explaining.push_paragraphs.Goals as goal
use Rattle.cops_explain.proofs.explaining.push_paragraphs.Goals.{in-Some+in_ok-push_paragraph, in_default}

pub push_paragraph-requires-clause-fault : goal.push_paragraph-requires-clause-fault
push_paragraph-requires-clause-fault c =
    verdict_fault (history_of c.args.refused).sessions c.args.refused.faults.now c.requires.faults c.loop-place.place c.in-Some.fault (sym c.get.ensures ∙ c.in-Some.is)

pub loop-place-init : goal.loop-place-init
loop-place-init c = none_added (history_of c.args.refused) (string_bytes c.args.out.now)

pub loop-place-preserved : goal.loop-place-preserved
loop-place-preserved c =
    let h = history_of c.args.refused in
    let faults = faults_of c.args.refused.faults.now in
    let start = string_bytes c.args.out.now in
    let old = string_bytes c.loop-place.out in
    elim c.match-get.branch [
      | in-Some+in_ok-push_paragraph w ↦
          rw w.out-is
          (paragraph_more h faults c.loop-place.place w.in-Some.fault start old (string_bytes w.push_paragraph.new.out) (sym c.get.ensures ∙ w.in-Some.is) c.loop-place.invariant w.in_ok-push_paragraph.ensures)
      | in_default w ↦ rw w.out-is (paragraphs_past h faults c.loop-place.place start old (sym c.get.ensures ∙ w.in_default.is) c.loop-place.invariant)
    ]
