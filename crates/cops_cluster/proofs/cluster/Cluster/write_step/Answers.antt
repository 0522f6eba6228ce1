use Rattle.std.proofs.Common.{◌≡◌, ap, ap₂, refl, sym}
use Rattle.cops_types.specs.NodeNumber.{node_number}
use Rattle.cops_cluster.specs.declared.share.Share.{Share}
use Rattle.cops_cluster.specs.Cluster.{node_of}
use Rattle.cops_cluster.proofs.Reports.{adds_same, answer_written}
use Rattle.cops_cluster.proofs.cluster.Cluster.write_step.Goals as goal

pub returns-in-Ok-clause-reported : goal.returns-in-Ok-clause-reported
returns-in-Ok-clause-reported g c =
    let is : node_number c.in-Some.spot.dc c.in-Some.spot.place ≡ node_of c.args.self.now c.args.client.now.dc c.args.key = ap₂ node_number c.in-Some.ensures.some.0 c.in-Some.ensures.some.1 in
    adds_same _ _ _ _ _ _ _ _ _ refl (sym (ap (λ (s : Share). s.entries.items) c.wrote-op.ensures.same.2)) is c.in_ok-event.ensures.event c.in-Ok.ensures.reported

pub returns-in-Ok-clause-outcome : goal.returns-in-Ok-clause-outcome
returns-in-Ok-clause-outcome g c =
    answer_written _ c.args.key c.args.content _ c.in_ok-event.field-0.event _ c.in_ok-event.ensures.event c.in-Ok.ensures.outcome
