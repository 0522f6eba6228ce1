use Rattle.std.proofs.Common.{◌≡◌}
use Rattle.cops_clients.proofs.gathering.Gathered.join_senders.Given as goal

abbrev pub invariant-loop-handle : goal.invariant-loop-handle
invariant-loop-handle g l = record {
  held : l.self.held ≡ l.fn.self.held;
  lost : l.self.lost ≡ l.fn.self.lost;
  shares : l.self.shares ≡ l.fn.self.shares;
}
