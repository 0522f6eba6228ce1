use Rattle.std.proofs.Common.{ap, get_or}
use Rattle.std.proofs.lemmas.List.Edits.{map_over_more}
use Rattle.cops_replication.specs.declared.outbox.Lane.{Lane}
use Rattle.cops_replication.specs.Lanes.{counted_from}
use Rattle.cops_replication.proofs.outbox.count_from.Goals as goal

pub loop-lane-preserved : goal.loop-lane-preserved
loop-lane-preserved c =
    map_over_more (counted_from c.args.first) c.args.lanes.now c.loop-lane.lane-items c.loop-lane.lane-index (get_or c.loop-lane.lane-items c.loop-lane.lane-index c.lane-item.result)
    c.loop-lane-test.true c.loop-lane.invariant (ap (λ (x : Lane). get_or c.loop-lane.lane-items c.loop-lane.lane-index x) c.lane-item.is)
