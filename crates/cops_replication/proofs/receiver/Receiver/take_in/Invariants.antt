use Rattle.std.proofs.Common.{◌≡◌, ◌+◌, ◌-◌, ◌<◌, ◌≤◌, [], None, drop, get_or, length, min}
use Rattle.cops_link.specs.Link.{seen}
use Rattle.cops_link.specs.declared.ends.LinkOut.{LinkOut}
use Rattle.cops_replication.specs.Doing.{advances, at_hand, frames_taken}
use Rattle.cops_replication.specs.Receiving.{EachTakesUpTo, ends}
use Rattle.cops_replication.specs.Shares.{Gains}
use Rattle.cops_replication.proofs.receiver.Receiver.take_in.Given as goal

abbrev pub invariant-loop-k : goal.invariant-loop-k
invariant-loop-k g l = record {
  dc : l.self.dc ≡ l.initial.self.dc;
  count : length (ends l.self) ≡ length (ends l.initial.self);
  takes : EachTakesUpTo 1 (ends l.initial.self) (ends l.self);
  rest : drop l.k (ends l.self) ≡ drop l.k (ends l.initial.self);
  share : Gains l.initial.self.share l.self.share;
  still : advances l.self.share ≡ advances l.initial.self.share;
  none : l.self.arrival ≡ None;
  more : frames_taken (ends l.initial.self) ≤ frames_taken (ends l.self);
  did : l.delivered ≡ min (frames_taken (ends l.self) + at_hand l.fn.self.arrival - frames_taken (ends l.initial.self)) 18446744073709551615;
  idle : l.delivered ≡ 0 → (j : _) (d : LinkOut) → j < l.k → seen (get_or (ends l.self) j d) ≡ [];
}
