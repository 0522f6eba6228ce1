use Rattle.std.proofs.Common.{◌≤◌}
use Rattle.cops_audit.specs.Searches.{Finds, IsSearching}
use Rattle.cops_audit.specs.Sweeps.{InRange, work_left}
use Rattle.cops_audit.proofs.search.look_through.Given as goal

abbrev pub invariant-loop-index : goal.invariant-loop-index
invariant-loop-index l = record {
  searching : IsSearching l.history.sessions l.search (InRange (record { client = l.range.client; from = l.index; to = l.range.to }));
  finds : Finds l.history.sessions l.fn.search l.search;
  work : work_left l.search ≤ work_left l.fn.search;
}
