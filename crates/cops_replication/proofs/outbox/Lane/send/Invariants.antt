use Rattle.std.proofs.Common.{length, ◌-◌, ◌≡◌, ◌≤◌, ◌+◌}
use Rattle.cops_link.specs.Link.{sent}
use Rattle.cops_replication.specs.Lanes.{Sends, shown}
use Rattle.cops_replication.proofs.outbox.Lane.send.Given as goal

abbrev pub invariant-loop-self : goal.invariant-loop-self
invariant-loop-self l = record {
  within : l.self.next ≤ length l.puts;
  since : l.before ≤ l.self.next;
  sends : Sends (shown l.puts l.initial.self) (shown l.puts l.self);
  count : length (sent l.self.link) + l.before ≡ length (sent l.initial.self.link) + l.self.next;
}

abbrev pub decreases-loop-self : goal.decreases-loop-self
decreases-loop-self l = length l.puts - l.self.next
