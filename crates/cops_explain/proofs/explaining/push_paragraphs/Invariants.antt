use Rattle.std.proofs.Common.{take}
use Rattle.std.specs.Prelude.{string_bytes}
use Rattle.cops_explain.specs.Explained.{AddsParagraphs}
use Rattle.cops_explain.specs.Refused.{history_of}
use Rattle.cops_audit.specs.Faults.{faults_of}
use Rattle.cops_explain.proofs.explaining.push_paragraphs.Given as goal

abbrev pub invariant-loop-place : goal.invariant-loop-place
invariant-loop-place l = AddsParagraphs (history_of l.refused) 1 (take l.place (faults_of l.refused.faults.now)) (string_bytes l.fn.out) (string_bytes l.out)
