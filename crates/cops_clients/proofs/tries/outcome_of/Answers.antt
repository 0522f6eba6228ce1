use Rattle.std.proofs.lemmas.Result.{on_err_weaker}
use Rattle.cops_clients.proofs.Holding.{at_key}
use Rattle.cops_clients.proofs.tries.outcome_of.Goals as goal

pub returns-in-Ok-clone-clause-held : goal.returns-in-Ok-clone-clause-held
returns-in-Ok-clone-clause-held g c =
    on_err_weaker c.put.result (λ may. at_key c.cluster.result.now c.args.state.now.cluster (g.G.Gate.may_hold c.args.gate.now) c.args.client.now.dc c.args.client.now.number c.in-Ok.key c.cluster.ensures may) c.put.ensures.held

pub returns-in-Ok-clone-2-clause-held : goal.returns-in-Ok-clone-2-clause-held
returns-in-Ok-clone-2-clause-held g c =
    on_err_weaker c.del.result (λ may. at_key c.cluster-in-Del.result.now c.args.state.now.cluster (g.G.Gate.may_hold c.args.gate.now) c.args.client.now.dc c.args.client.now.number c.in-Ok-clone-2.key c.cluster-in-Del.ensures may) c.del.ensures.held

pub returns-in-Ok-clone-3-clause-held : goal.returns-in-Ok-clone-3-clause-held
returns-in-Ok-clone-3-clause-held g c =
    on_err_weaker c.get.result (λ may. at_key c.cluster-in-Get.result.now c.args.state.now.cluster (g.G.Gate.may_hold c.args.gate.now) c.args.client.now.dc c.args.client.now.number c.in-Ok-clone-3.key c.cluster-in-Get.ensures may) c.get.ensures.held
