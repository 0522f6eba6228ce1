use Rattle.std.proofs.Common.{◌≡◌, length}
use Rattle.cops_audit.specs.Placing.{AreSourcePlaces}
use Rattle.cops_audit.proofs.sources.find_sources.Given as goal

abbrev pub invariant-loop-number : goal.invariant-loop-number
invariant-loop-number l = record {
  places : AreSourcePlaces l.history l.table l.places.items;
  count : length l.places.items ≡ l.number;
}
