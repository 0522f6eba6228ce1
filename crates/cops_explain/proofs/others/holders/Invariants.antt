use Rattle.cops_explain.specs.Refused.{history_of}
use Rattle.cops_explain.proofs.OtherLemmas.{AreFound}
use Rattle.cops_explain.proofs.others.holders.Given as goal

abbrev pub invariant-loop-put : goal.invariant-loop-put
invariant-loop-put l = AreFound (history_of l.refused).sessions l.name l.put-items l.put-index l.names.items
