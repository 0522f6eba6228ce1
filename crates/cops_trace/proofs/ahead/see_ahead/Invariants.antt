use Rattle.std.proofs.Common.{◌≡◌, ◌≤◌, length}
use Rattle.cops_trace.specs.Ahead.{AreSeen}
use Rattle.cops_trace.proofs.ahead.see_ahead.Given as goal

abbrev pub invariant-loop : goal.invariant-loop
invariant-loop l = record {
  within : l.at ≤ length l.bytes;
  same : length l.places.items ≡ length l.ops.items;
  seen : AreSeen l.format l.bytes l.places.items l.ops.items;
}
