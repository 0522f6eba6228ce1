use Rattle.std.proofs.Common.{◌≡◌, ◌<◌, ◌≤◌, ℕ, Some, length, slice_get}
use Rattle.std.specs.Prelude.{vec_capacity}
use Rattle.cops_audit.proofs.keys.set_own_places.Given as goal

abbrev pub invariant-loop-place : goal.invariant-loop-place
invariant-loop-place l = record {
  count : length l.places.items ≡ l.place;
  own : (k : ℕ) → k < l.place → slice_get l.places.items k ≡ Some k;
  capacity : vec_capacity l.initial.places ≤ vec_capacity l.places;
}
