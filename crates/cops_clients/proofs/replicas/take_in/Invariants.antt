use Rattle.std.proofs.Common.{◌≡◌, ◌<◌}
use Rattle.cops_clients.proofs.replicas.take_in.Given as goal

abbrev pub invariant-loop : goal.invariant-loop
invariant-loop g l = record {
  share : l.receiver.share.holder ≡ l.initial.receiver.share.holder;
  late : 0 < l.state.hold → l.receiver ≡ l.initial.receiver;
}
