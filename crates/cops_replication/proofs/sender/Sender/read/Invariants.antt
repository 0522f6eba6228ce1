use Rattle.std.proofs.Common.{◌≡◌}
use Rattle.cops_replication.specs.Lanes.{frames}
use Rattle.cops_replication.specs.Sending.{CarriesBelow, lanes}
use Rattle.cops_replication.proofs.sender.Sender.read.Given as goal

abbrev pub invariant-loop-place : goal.invariant-loop-place
invariant-loop-place g l = record {
  below : CarriesBelow l.place l.cluster l.initial.self l.self;
  sent : frames (lanes l.self) ≡ frames (lanes l.initial.self);
}
