use Rattle.std.proofs.Common.{◌≡◌, ap₂, subst, ℕ}
use Rattle.std.specs.Prelude.{IfOk}
use Rattle.cops_node.specs.declared.event.NodeEvent.TheVariants.{Deliver}
use Rattle.cops_types.specs.NodeNumber.{node_number}
use Rattle.cops_cluster.specs.Shares.{Adds, AddsAtMostOne}
use Rattle.cops_cluster.specs.Cluster.{node_of}
use Rattle.cops_cluster.proofs.cluster.Cluster.deliver.Goals as goal

pub returns-clause-reported : goal.returns-clause-reported
returns-clause-reported g c =
    let b = c.args.share.now.entries.items in
    let a = c.received.new.share.entries.items in
    let is : node_number c.in-Some.spot.dc c.in-Some.spot.place ≡ node_of c.args.self.now c.args.dc c.args.put.key = ap₂ node_number c.in-Some.ensures.some.0 c.in-Some.ensures.some.1 in
    subst (λ (m : ℕ). IfOk c.received.result (λ out. Adds b a m (Deliver c.args.put) out)) is c.received.ensures.reported

pub returns-clause-most : goal.returns-clause-most
returns-clause-most g c =
    let b = c.args.share.now.entries.items in
    let a = c.received.new.share.entries.items in
    let is : node_number c.in-Some.spot.dc c.in-Some.spot.place ≡ node_of c.args.self.now c.args.dc c.args.put.key = ap₂ node_number c.in-Some.ensures.some.0 c.in-Some.ensures.some.1 in
    subst (λ (m : ℕ). AddsAtMostOne b a m (Deliver c.args.put)) is c.received.ensures.most
