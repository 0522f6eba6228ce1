use Rattle.std.proofs.Common.{All, ◌≡◌, [], map}
use Rattle.cops_replication.specs.Lanes.{shown, idle, IsWithin}
use Rattle.cops_replication.proofs.outbox.Outbox.new.Given as goal

abbrev pub invariant-loop-link : goal.invariant-loop-link
invariant-loop-link l = record {
  within : All (IsWithin []) l.lanes.items;
  shows : map (shown []) l.lanes.items ≡ map idle l.yielded;
}
