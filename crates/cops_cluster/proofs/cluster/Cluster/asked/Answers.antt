use Rattle.std.proofs.Common.{ap, sym, ◌∙◌}
use Rattle.cops_node.specs.declared.outcome.Outcome.{Outcome}
use Rattle.cops_node.specs.Node.{Node}
use Rattle.cops_cluster.specs.Shares.{is_of_node}
use Rattle.cops_cluster.proofs.Reports.{step_of_node}
use Rattle.cops_cluster.proofs.cluster.Cluster.asked.Goals as goal

pub returns-in-Ok-clause-answers : goal.returns-in-Ok-clause-answers
returns-in-Ok-clause-answers g c = ap (λ (x : Outcome × Node). is_of_node x.0) (sym c.in-Ok.ensures.stepped) ∙ step_of_node c.args.book.now.node c.args.event
