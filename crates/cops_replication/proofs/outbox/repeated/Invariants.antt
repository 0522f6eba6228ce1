use Rattle.std.proofs.Common.{◌≡◌, take}
use Rattle.cops_replication.specs.Lanes.{repeated}
use Rattle.cops_replication.proofs.outbox.repeated.Given as goal

abbrev pub invariant-loop-put : goal.invariant-loop-put
invariant-loop-put l = l.all.items ≡ repeated l.repeat (take l.put-index l.put-items)
