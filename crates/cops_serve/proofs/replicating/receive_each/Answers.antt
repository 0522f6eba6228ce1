use Rattle.std.proofs.Common.{◌∙◌}
use Rattle.std.proofs.Math.Seq.{map-set_same}
use Rattle.cops_cluster.specs.declared.share.Holder.{Holder}
use Rattle.cops_replication.specs.declared.receiver.Receiver.{Receiver}
use Rattle.cops_serve.proofs.replicating.receive_each.Goals as goal

pub loop-receiver-preserved : goal.loop-receiver-preserved
loop-receiver-preserved g c =
    let holder : Receiver → Holder = λ r. r.share.holder in
    let before = c.receiver-item.result in
    map-set_same holder c.loop-receiver.receivers c.loop-receiver.receiver-index c.turn-turn.new.self before c.turn-turn.ensures.share.holder ∙ c.loop-receiver.invariant
