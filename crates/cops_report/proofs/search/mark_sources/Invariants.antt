use Rattle.cops_report.specs.Marks.{Gains}
use Rattle.cops_report.proofs.PutLemmas.{HoldersMarked}
use Rattle.cops_report.proofs.search.mark_sources.Given as goal

abbrev pub invariant-loop-put : goal.invariant-loop-put
invariant-loop-put l = record {
  gains : Gains l.history.sessions l.mark l.fn.marks l.marks l.fn.names.items l.names.items;
  all : HoldersMarked l.history.sessions l.marks l.mark l.holders l.put-index;
}
