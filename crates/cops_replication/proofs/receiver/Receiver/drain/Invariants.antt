use Rattle.std.proofs.Common.{◌≡◌}
use Rattle.cops_replication.specs.Receiving.{EachTakesUpTo, ends}
use Rattle.cops_replication.specs.Shares.{Gains}
use Rattle.cops_replication.proofs.receiver.Receiver.drain.Given as goal

abbrev pub invariant-loop : goal.invariant-loop
invariant-loop g l = record {
  dc : l.self.dc ≡ l.initial.self.dc;
  takes : EachTakesUpTo l.counter (ends l.initial.self) (ends l.self);
  share : Gains l.initial.self.share l.self.share;
}
