use Rattle.cops_report.specs.Marks.{Gains}
use Rattle.cops_report.proofs.StepLemmas.{AreMarkedFrom}
use Rattle.cops_report.proofs.search.mark_session.Given as goal

abbrev pub invariant-loop-index : goal.invariant-loop-index
invariant-loop-index l = record {
  gains : Gains l.history.sessions l.mark l.fn.marks l.marks l.fn.names.items l.names.items;
  all : AreMarkedFrom l.history.sessions l.marks l.mark.next l.index;
}
