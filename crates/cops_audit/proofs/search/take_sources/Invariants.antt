use Rattle.std.proofs.Common.{◌≤◌}
use Rattle.cops_audit.specs.Searches.{TakesSources}
use Rattle.cops_audit.specs.Sweeps.{work_left}
use Rattle.cops_audit.proofs.Searching.{CountedTo}
use Rattle.cops_audit.proofs.search.take_sources.Given as goal

abbrev pub invariant-loop-place : goal.invariant-loop-place
invariant-loop-place l = record {
  takes : TakesSources l.history.sessions l.name l.fn.search l.search;
  sources : CountedTo l.history.sessions l.table l.name l.place l.search;
  work : work_left l.search ≤ work_left l.fn.search;
}
