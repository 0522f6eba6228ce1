use Rattle.std.proofs.Common.{◌≡◌, ◌-◌, ◌<◌, ◌≤◌, ℕ, All, get_or, map, min}
use Rattle.cops_replication.specs.Lanes.{ALane, EachSends, IsClearOrFull, frames, shown, IsWithin}
use Rattle.cops_replication.proofs.outbox.send_on.Given as goal

abbrev pub invariant-loop-k : goal.invariant-loop-k
invariant-loop-k l = record {
  within : All (IsWithin l.puts) l.lanes;
  sends : EachSends (map (shown l.puts) l.initial.lanes) (map (shown l.puts) l.lanes);
  more : frames (map (shown l.puts) l.initial.lanes) ≤ frames (map (shown l.puts) l.lanes);
  count : l.sent ≡ min (frames (map (shown l.puts) l.lanes) - frames (map (shown l.puts) l.initial.lanes)) 18446744073709551615;
  filled : (i : ℕ) (d : ALane) → i < l.k → IsClearOrFull (get_or (map (shown l.puts) l.lanes) i d);
}
