use Rattle.std.proofs.Common.{◌≡◌, ◌*◌, vec_len}
use Rattle.cops_cluster.proofs.cluster.opened_nodes.Given as goal

abbrev pub invariant-loop-dc : goal.invariant-loop-dc
invariant-loop-dc l = vec_len l.nodes ≡ l.dc * l.places
