use Rattle.cops_types.specs.NodeNumber.{node_number}
use Rattle.cops_cluster.proofs.Reports.{reply_kept, reported_adds, most_adds, reported_answers}
use Rattle.cops_cluster.proofs.cluster.Cluster.received.Goals as goal

pub returns-clause-reported : goal.returns-clause-reported
returns-clause-reported g c =
    let s = c.step-answered in
    let b = c.args.share.now.entries.items in
    let a = s.new.share.entries.items in
    let n = node_number c.args.spot.dc c.args.spot.place in
    reported_adds b a n c.args.event c.reply_in.result c.passed.result
    (reply_kept b a n c.args.event (g.G.Gate.may_hold c.args.gate.now) n 65535 s.result c.reply_in.result s.ensures.reported s.ensures.own s.ensures.none s.ensures.stop c.reply_in.ensures)
    c.passed.ensures.reported

pub returns-clause-most : goal.returns-clause-most
returns-clause-most g c =
    let s = c.step-answered in
    let b = c.args.share.now.entries.items in
    let a = s.new.share.entries.items in
    let n = node_number c.args.spot.dc c.args.spot.place in
    most_adds b a n c.args.event c.reply_in.result
    (reply_kept b a n c.args.event (g.G.Gate.may_hold c.args.gate.now) n 65535 s.result c.reply_in.result s.ensures.reported s.ensures.own s.ensures.none s.ensures.stop c.reply_in.ensures)

pub returns-clause-outcome : goal.returns-clause-outcome
returns-clause-outcome g c =
    let s = c.step-answered in
    reported_answers c.args.event s.result c.reply_in.result c.passed.result s.ensures.outcome s.ensures.stops c.reply_in.ensures c.passed.ensures.reported
