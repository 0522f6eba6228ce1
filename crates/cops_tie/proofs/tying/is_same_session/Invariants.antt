use Rattle.std.proofs.Common.{◌≡◌, [], slice_index_or, take}
use Rattle.cops_tie.proofs.tying.is_same_session.Given as goal

abbrev pub invariant-loop-index : goal.invariant-loop-index
invariant-loop-index l = take l.index (slice_index_or l.one.sessions l.client []) ≡ take l.index (slice_index_or l.other.sessions l.client [])
