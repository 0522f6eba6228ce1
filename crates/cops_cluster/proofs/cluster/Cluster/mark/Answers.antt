use Rattle.std.proofs.Common.{◌≡◌, ap₂, ◌∙◌, subst, ℕ}
use Rattle.std.specs.Prelude.{IfOk}
use Rattle.cops_node.specs.declared.event.NodeEvent.TheVariants.{Mark}
use Rattle.cops_types.specs.NodeNumber.{place_of, node_number}
use Rattle.cops_cluster.specs.Shares.{Adds, AddsAtMostOne}
use Rattle.cops_cluster.specs.Receiving.{IsMarkedAs}
use Rattle.cops_cluster.proofs.Reports.{most_adds, reply_kept, reported_adds}
use Rattle.cops_cluster.proofs.Marks.{reported_marked}
use Rattle.cops_cluster.proofs.cluster.Cluster.mark.Goals as goal

pub returns-clause-reported : goal.returns-clause-reported
returns-clause-reported g c = λ _.
    let s = c.mark_step-answered in
    let b = c.args.share.now.entries.items in
    let a = s.new.share.entries.items in
    let n = node_number c.in-Some.spot.dc c.in-Some.spot.place in
    let e = Mark c.args.version c.args.dep in
    let is : n ≡ node_number c.args.dc (place_of c.args.version) = ap₂ node_number c.in-Some.ensures.some.0 (c.in-Some.ensures.some.1 ∙ c.place.ensures.value) in
    subst (λ (m : ℕ). IfOk c.passed.result (λ out. Adds b a m e out)) is
    (reported_adds b a n e c.reply_in.result c.passed.result
    (reply_kept b a n e (g.G.Gate.may_hold c.args.gate.now) n 65535 s.result c.reply_in.result s.ensures.reported s.ensures.own s.ensures.none s.ensures.stop c.reply_in.ensures)
    c.passed.ensures.reported)

pub returns-clause-most : goal.returns-clause-most
returns-clause-most g c =
    let s = c.mark_step-answered in
    let b = c.args.share.now.entries.items in
    let a = s.new.share.entries.items in
    let n = node_number c.in-Some.spot.dc c.in-Some.spot.place in
    let e = Mark c.args.version c.args.dep in
    let is : n ≡ node_number c.args.dc (place_of c.args.version) = ap₂ node_number c.in-Some.ensures.some.0 (c.in-Some.ensures.some.1 ∙ c.place.ensures.value) in
    subst (λ (m : ℕ). AddsAtMostOne b a m e) is
    (most_adds b a n e c.reply_in.result
    (reply_kept b a n e (g.G.Gate.may_hold c.args.gate.now) n 65535 s.result c.reply_in.result s.ensures.reported s.ensures.own s.ensures.none s.ensures.stop c.reply_in.ensures))

pub returns-clause-marked : goal.returns-clause-marked
returns-clause-marked g c = λ _.
    let s = c.mark_step-answered in
    let spot = c.in-Some.spot in
    let n = node_number spot.dc spot.place in
    subst (λ (dc : ℕ). IfOk c.passed.result (IsMarkedAs c.args.yes.now dc c.args.version c.args.dep)) c.in-Some.ensures.some.0
    (reported_marked c.args.yes.now spot.dc c.args.version c.args.dep (g.G.Gate.may_hold c.args.gate.now) n 65535 s.result c.reply_in.result c.passed.result
    s.ensures.allowed s.ensures.own s.ensures.stops s.ensures.stop c.reply_in.ensures c.passed.ensures.reported)
