use Rattle.std.proofs.Common.{◌≡◌, ◌+◌, [], length, take}
use Rattle.cops_types.specs.declared.op.OpName.{OpName}
use Rattle.cops_report.specs.Marks.{PlacesAll, open_places}
use Rattle.cops_report.specs.Searches.{IsLevel, IsRising, IsSearch}
use Rattle.cops_report.proofs.search.mark_level.Given as goal

abbrev pub invariant-loop-next : goal.invariant-loop-next
invariant-loop-next l = record {
  search : (to : OpName) → IsSearch l.history.sessions to l.fn.marks l.level.steps []
      → IsSearch l.history.sessions to l.marks l.level.steps (take l.next-index l.reached);
  next : IsLevel l.marks l.steps l.names.items;
  same : IsLevel l.marks l.level.steps l.reached;
  rising : IsRising l.reached;
  count : open_places l.marks + length l.names.items ≡ open_places l.fn.marks;
  places : PlacesAll l.marks l.history.sessions;
}
