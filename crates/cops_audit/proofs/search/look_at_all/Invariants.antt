use Rattle.cops_audit.specs.Searches.{Finds, IsSearching}
use Rattle.cops_audit.specs.Sweeps.{work_left}
use Rattle.cops_audit.proofs.search.look_at_all.Given as goal

abbrev pub invariant-loop-range : goal.invariant-loop-range
invariant-loop-range l = record {
  searching : IsSearching l.history.sessions l.search (λ _. ⊥);
  finds : Finds l.history.sessions l.fn.search l.search;
}

abbrev pub decreases-loop-range : goal.decreases-loop-range
decreases-loop-range l = work_left l.search
