use Rattle.std.proofs.Common.{◌≡◌}
use Rattle.cops_trace.specs.Live.{IsLive}
use Rattle.cops_clients.proofs.following.follow.Given as goal

abbrev pub invariant-loop : goal.invariant-loop
invariant-loop g l = record {
  begun : l.live.begun ≡ l.initial.live.begun;
  live : IsLive g.W.Write.contents l.live;
}
