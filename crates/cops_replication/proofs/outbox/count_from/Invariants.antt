use Rattle.std.proofs.Common.{◌≡◌, ◌++◌, map, take, drop}
use Rattle.cops_replication.specs.Lanes.{counted_from}
use Rattle.cops_replication.proofs.outbox.count_from.Given as goal

abbrev pub invariant-loop-lane : goal.invariant-loop-lane
invariant-loop-lane l = l.lane-items ≡ map (counted_from l.first) (take l.lane-index l.initial.lane-items) ++ drop l.lane-index l.initial.lane-items
