use Rattle.std.proofs.Common.{◌≡◌, ◌-◌, ◌≤◌, min}
use Rattle.cops_replication.specs.Doing.{advances}
use Rattle.cops_replication.specs.Receiving.{IsSame}
use Rattle.cops_replication.specs.Shares.{Gains}
use Rattle.cops_replication.proofs.receiver.Receiver.work.Given as goal

abbrev pub invariant-loop : goal.invariant-loop
invariant-loop g l = record {
  same : IsSame l.initial.self l.self;
  arrival : l.self.arrival ≡ l.initial.self.arrival;
  share : Gains l.initial.self.share l.self.share;
  more : advances l.initial.self.share ≤ advances l.self.share;
  did : l.done ≡ min (advances l.self.share - advances l.initial.self.share) 18446744073709551615;
}
