use Rattle.std.proofs.Common.{◌+◌, ◌≤◌, length}
use Rattle.cops_types.specs.declared.limits.TheConstants.{MAX_OPS}
use Rattle.cops_report.specs.Marks.{open_places}
use Rattle.cops_report.specs.Searches.{HasReached}
use Rattle.cops_report.proofs.search.search.Given as goal

abbrev pub invariant-loop-marks : goal.invariant-loop-marks
invariant-loop-marks l = record {
  reached : HasReached l.history.sessions l.fn.to l.marks l.level;
  count : open_places l.marks + length l.level.names.items + l.level.steps ≤ MAX_OPS;
}

abbrev pub decreases-loop-marks : goal.decreases-loop-marks
decreases-loop-marks l = open_places l.marks + length l.level.names.items
