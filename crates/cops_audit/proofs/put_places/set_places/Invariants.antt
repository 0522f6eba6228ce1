use Rattle.std.proofs.Common.{◌≡◌, ◌≤◌, length}
use Rattle.std.specs.Prelude.{vec_capacity}
use Rattle.cops_audit.proofs.Positions.{AllNumberedBelow, ReportPlacesBelow}
use Rattle.cops_audit.proofs.put_places.set_places.Given as goal

abbrev pub invariant-loop-place : goal.invariant-loop-place
invariant-loop-place l = record {
  len : length l.places.items ≡ length l.history.puts;
  reports : ReportPlacesBelow l.place l.history.puts l.table l.places.items;
  numbered : AllNumberedBelow l.place l.history.puts l.table;
  capacity : vec_capacity l.fn.places ≤ vec_capacity l.places;
}
