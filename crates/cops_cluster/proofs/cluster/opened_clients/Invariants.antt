use Rattle.cops_cluster.specs.Opening.{AreClientsAt, AreOfFormat}
use Rattle.cops_cluster.proofs.cluster.opened_clients.Given as goal

abbrev pub invariant-loop-k : goal.invariant-loop-k
invariant-loop-k l = AreClientsAt l.dcs l.k l.clients.items × AreOfFormat l.format l.clients.items
