use Rattle.std.proofs.Common.{rules, ◌≡◌, ap, ap₂, sym, subst, ℕ, List}
use Rattle.cops_node.specs.declared.event.NodeEvent.TheVariants.{Ask}
use Rattle.cops_node.specs.declared.outcome.Outcome.{Outcome}
use Rattle.cops_types.specs.NodeNumber.{node_number}
use Rattle.cops_cluster.specs.Shares.{Adds}
use Rattle.cops_cluster.specs.Cluster.{node_of}
use Rattle.cops_cluster.proofs.Reports.{adds_at, most_at}
use Rattle.cops_cluster.proofs.cluster.Cluster.ask.Goals as goal

pub returns-in-Err-clause-most : goal.returns-in-Err-clause-most
returns-in-Err-clause-most g c =
    let is : node_number c.in-Some.spot.dc c.in-Some.spot.place ≡ node_of c.args.self.now c.args.dc c.args.key.now = ap₂ node_number c.in-Some.ensures.some.0 c.in-Some.ensures.some.1 in
    let cloned : c.in-Ok.asked ≡ c.args.key.now = search rules in
    let e : Ask c.in-Ok.asked c.args.version ≡ Ask c.args.key.now c.args.version = ap (λ (k : List ℕ). Ask k c.args.version) cloned in
    most_at _ _ _ _ _ _ is e c.received.ensures.most

pub returns-in-Ok-received-clause-reported : goal.returns-in-Ok-received-clause-reported
returns-in-Ok-received-clause-reported g c =
    let is : node_number c.in-Some.spot.dc c.in-Some.spot.place ≡ node_of c.args.self.now c.args.dc c.args.key.now = ap₂ node_number c.in-Some.ensures.some.0 c.in-Some.ensures.some.1 in
    let cloned : c.in-Ok.asked ≡ c.args.key.now = search rules in
    let e : Ask c.in-Ok.asked c.args.version ≡ Ask c.args.key.now c.args.version = ap (λ (k : List ℕ). Ask k c.args.version) cloned in
    subst (λ (o : Outcome). Adds c.args.share.now.entries.items c.received.new.share.entries.items (node_of c.args.self.now c.args.dc c.args.key.now) (Ask c.args.key.now c.args.version) o) (sym c.asked_of.ensures.reported)
    (adds_at _ _ _ _ _ _ _ is e c.in-Ok-received.ensures.reported)

pub returns-in-Ok-received-clause-most : goal.returns-in-Ok-received-clause-most
returns-in-Ok-received-clause-most g c =
    let is : node_number c.in-Some.spot.dc c.in-Some.spot.place ≡ node_of c.args.self.now c.args.dc c.args.key.now = ap₂ node_number c.in-Some.ensures.some.0 c.in-Some.ensures.some.1 in
    let cloned : c.in-Ok.asked ≡ c.args.key.now = search rules in
    let e : Ask c.in-Ok.asked c.args.version ≡ Ask c.args.key.now c.args.version = ap (λ (k : List ℕ). Ask k c.args.version) cloned in
    most_at _ _ _ _ _ _ is e c.received.ensures.most
