use Rattle.std.proofs.Common.{refl}
use Rattle.cops_node.specs.declared.event.NodeEvent.TheVariants.{Get}
use Rattle.cops_cluster.specs.Cluster.{node_of, after_get}
use Rattle.cops_cluster.proofs.Reports.{reply_kept, reported_adds, most_adds, reported_context}
use Rattle.cops_cluster.proofs.cluster.Cluster.get.Goals as goal

pub returns-clause-reported : goal.returns-clause-reported
returns-clause-reported g c =
    let s = c.get_step-answered in
    let b = c.args.client.now.share.entries.items in
    let a = s.new.client.share.entries.items in
    let n = node_of c.args.self.now c.args.client.now.dc c.args.key in
    let e = Get c.args.client.now.number c.args.key in
    reported_adds b a n e c.spent-reply.result c.passed.result
    (reply_kept b a n e (g.G.Gate.may_hold c.args.gate.now) n c.args.client.now.number s.result c.spent-reply.result s.ensures.reported s.ensures.own s.ensures.none s.ensures.stop c.spent-reply.ensures)
    c.passed.ensures.reported

pub returns-clause-most : goal.returns-clause-most
returns-clause-most g c =
    let s = c.get_step-answered in
    let b = c.args.client.now.share.entries.items in
    let a = s.new.client.share.entries.items in
    let n = node_of c.args.self.now c.args.client.now.dc c.args.key in
    let e = Get c.args.client.now.number c.args.key in
    most_adds b a n e c.spent-reply.result
    (reply_kept b a n e (g.G.Gate.may_hold c.args.gate.now) n c.args.client.now.number s.result c.spent-reply.result s.ensures.reported s.ensures.own s.ensures.none s.ensures.stop c.spent-reply.ensures)

pub returns-clause-context : goal.returns-clause-context
returns-clause-context g c =
    let s = c.get_step-answered in
    let pairs = c.args.client.now.context.pairs in
    reported_context (after_get pairs c.args.key) pairs s.new.client.context.pairs s.result c.spent-reply.result c.passed.result
    (λ code. refl) s.ensures.context s.ensures.kept c.spent-reply.ensures c.passed.ensures.reported
