use Rattle.std.proofs.Common.{◌≡◌, ◌<◌, ◌≤◌, ℕ, List, Some, length, slice_get}
use Rattle.std.specs.Prelude.{vec_capacity}
use Rattle.cops_audit.specs.Keys.{OnKey}
use Rattle.cops_audit.proofs.keys.set_keys.Given as goal

abbrev pub invariant-loop-reported : goal.invariant-loop-reported
invariant-loop-reported l = record {
  count : length l.keys.items ≡ length l.table;
  each : (n place number : ℕ) (key : List ℕ) → n < l.reported-index → slice_get l.places n ≡ Some place → slice_get l.keys.items place ≡ Some number → OnKey l.history.sessions l.table place key
      → slice_get l.history.keys number ≡ Some key;
  capacity : vec_capacity l.fn.keys ≤ vec_capacity l.keys;
}
