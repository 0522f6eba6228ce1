use Rattle.std.proofs.Common.{◌≤◌, ◌+◌, Some, drop, false, length}
use Rattle.cops_trace.specs.Ahead.{AreSeen, GoesOn, reading_at}
use Rattle.cops_trace.specs.Reading.{IsWithinReach}
use Rattle.cops_trace.proofs.ahead.take_ahead.Given as goal

abbrev pub invariant-loop-k : goal.invariant-loop-k
invariant-loop-k g l = record {
  seen : AreSeen l.counts.format l.ahead.bytes.now l.ahead.places.items l.ahead.ops.items;
  within : l.used ≤ length l.ahead.bytes.now;
  on : GoesOn g.S.Sink.took l.fn.begun (reading_at l.fn.counts l.at l.ahead.bytes.now) l.begun (reading_at l.counts (l.at + l.used) (drop l.used l.ahead.bytes.now));
  reach : IsWithinReach (Some l.counts) false (l.at + l.used);
}
