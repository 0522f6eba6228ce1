use Rattle.std.specs.Prelude.{◌≡◌, ◌⊎◌, ◌++◌, IsTrue, map}
use Rattle.cops_clients.specs.Gates.{MayHold}
use Rattle.cops_cluster.specs.Close.{holders}
use Rattle.cops_clients.proofs.gathering.Gathered.join.Given as goal

abbrev pub invariant-loop-handle : goal.invariant-loop-handle
invariant-loop-handle g l = record {
  held : IsTrue l.self.held → MayHold l.setting (g.G.Gate.may_hold l.gate);
  lost : IsTrue l.initial.self.lost → IsTrue l.self.lost;
  shares : IsTrue l.self.lost ⊎ (holders l.self.shares.items ≡ holders l.initial.self.shares.items ++ map (λ (h : _). h.promise.owner) l.yielded);
}
