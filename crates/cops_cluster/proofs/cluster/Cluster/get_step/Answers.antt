use Rattle.std.proofs.Common.{◌≡◌, ◌∙◌, ℕ, ap, ap₂, sym}
use Rattle.cops_node.specs.declared.event.NodeEvent.TheVariants.{Get}
use Rattle.cops_types.specs.NodeNumber.{node_number}
use Rattle.cops_cluster.specs.declared.share.Share.{Share}
use Rattle.cops_cluster.specs.Cluster.{node_of}
use Rattle.cops_cluster.proofs.Reports.{adds_same, answer_got}
use Rattle.cops_cluster.proofs.cluster.Cluster.get_step.Goals as goal

pub returns-in-Ok-step-clause-reported : goal.returns-in-Ok-step-clause-reported
returns-in-Ok-step-clause-reported g c =
    let same = c.in-Ok.ensures.same in
    let is : node_number c.in-Ok.spot.dc c.in-Ok.spot.place ≡ node_of c.args.self.now c.args.client.now.dc c.args.key = ap₂ node_number c.in-Ok.ensures.spot.0 c.in-Ok.ensures.spot.1 in
    let event : c.in_ok-event.field-0.event ≡ Get c.args.client.now.number c.args.key = c.in_ok-event.ensures.event ∙ ap (λ (n : ℕ). Get n c.args.key) same.0 in
    adds_same _ _ _ _ _ _ _ _ _ (ap (λ (s : Share). s.entries.items) same.2) (sym (ap (λ (s : Share). s.entries.items) c.saw-op.ensures.same.2)) is event c.in-Ok-step.ensures.reported

pub returns-in-Ok-step-clause-outcome : goal.returns-in-Ok-step-clause-outcome
returns-in-Ok-step-clause-outcome g c = answer_got _ c.args.key c.in_ok-event.field-0.event _ c.in_ok-event.ensures.event c.in-Ok-step.ensures.outcome
