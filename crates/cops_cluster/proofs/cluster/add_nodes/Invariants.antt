use Rattle.std.proofs.Common.{◌≡◌, ◌+◌, vec_len}
use Rattle.cops_cluster.proofs.cluster.add_nodes.Given as goal

abbrev pub invariant-loop-place : goal.invariant-loop-place
invariant-loop-place l = vec_len l.nodes ≡ vec_len l.fn.nodes + l.place
