use Rattle.std.proofs.Common.{◌∙◌, sym}
use Rattle.cops_explain.proofs.FaultLemmas.{number_fault}
use Rattle.cops_explain.specs.Refused.{history_of}
use Rattle.cops_explain_json.proofs.faults.one_fault.Goals as goal

pub fault_json-requires-clause-fault : goal.fault_json-requires-clause-fault
fault_json-requires-clause-fault c =
    number_fault (history_of c.args.refused).sessions c.args.refused.faults.now c.requires.faults c.args.number c.in-Some.fault (sym c.of_number.ensures ∙ c.in-Some.is)
