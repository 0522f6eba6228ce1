use Rattle.std.proofs.Common.{◌≡◌, length, vec_len}
use Rattle.std.specs.Prelude.{vec_capacity}
use Rattle.cops_cluster.proofs.closing.taken_out.Given as goal

abbrev pub invariant-loop-node : goal.invariant-loop-node
invariant-loop-node l = record {
  len : vec_len l.books ≡ length l.yielded;
  room : vec_capacity l.books ≡ vec_capacity l.fn.room;
}
