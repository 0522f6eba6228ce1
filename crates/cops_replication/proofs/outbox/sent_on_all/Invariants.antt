use Rattle.std.proofs.Common.{All, ◌≤◌, take}
use Rattle.cops_replication.specs.declared.outbox.Lane.{Lane}
use Rattle.cops_replication.proofs.outbox.sent_on_all.Given as goal

abbrev pub invariant-loop-lane : goal.invariant-loop-lane
invariant-loop-lane l = record {
  puts : l.least ≤ l.puts;
  each : All (λ (x : Lane). l.least ≤ x.next) (take l.lane-index l.lanes);
}
