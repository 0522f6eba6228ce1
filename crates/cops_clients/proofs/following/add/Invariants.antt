use Rattle.std.proofs.Common.{◌≡◌, map, take}
use Rattle.cops_trace.specs.Live.{Gains, IsLive}
use Rattle.cops_trace.specs.Text.{record_of}
use Rattle.cops_clients.proofs.following.add.Given as goal

abbrev pub invariant-loop-record : goal.invariant-loop-record
invariant-loop-record g l = record {
  begun : l.live.begun ≡ l.initial.live.begun;
  live : IsLive g.W.Write.contents l.live;
  gains : Gains (map record_of (take l.record-index l.records)) l.initial.live l.live;
}
