use Rattle.std.proofs.Common.{◌≡◌, ◌-◌}
use Rattle.cops_replication.specs.Receiving.{EachTakesUpTo, ends}
use Rattle.cops_clients.proofs.replicas.settle.Given as goal

abbrev pub invariant-loop-n : goal.invariant-loop-n
invariant-loop-n g l = record {
  share : l.receiver.share.holder ≡ l.initial.receiver.share.holder;
  late : EachTakesUpTo (l.n - l.state.hold) (ends l.initial.receiver) (ends l.receiver);
}
