use Rattle.std.proofs.Common.{◌≡◌, ◌<◌, ℕ, slice_index_or, []}
use Rattle.cops_tie.proofs.tying.is_same.Given as goal

abbrev pub invariant-loop-client : goal.invariant-loop-client
invariant-loop-client l = (k : ℕ) → k < l.client → slice_index_or l.one.sessions k [] ≡ slice_index_or l.other.sessions k []
