use Rattle.std.proofs.Common.{◌≡◌, length, vec_len}
use Rattle.std.specs.Prelude.{vec_capacity}
use Rattle.cops_cluster.proofs.closing.locked.Given as goal

abbrev pub invariant-loop-book : goal.invariant-loop-book
invariant-loop-book l = record {
  len : vec_len l.nodes ≡ length l.yielded;
  room : vec_capacity l.nodes ≡ vec_capacity l.fn.room;
}
