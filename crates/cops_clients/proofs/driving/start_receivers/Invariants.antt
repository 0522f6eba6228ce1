use Rattle.std.proofs.Common.{◌≡◌, All, map}
use Rattle.cops_cluster.specs.declared.share.Holder.TheVariants.{Receiver as OfReceiver}
use Rattle.cops_replication.specs.declared.receiver.Receiver.{Receiver}
use Rattle.cops_clients.proofs.driving.start_receivers.Given as goal

abbrev pub invariant-loop-receiver : goal.invariant-loop-receiver
invariant-loop-receiver g l =
    (goal.iterator-loop-receiver g).can_next l.receiver-iterator
    × (goal.iterator-loop-receiver g).is_finite l.receiver-iterator
    × All (λ (h : _). (h.promise.gate.value ≡ l.gate) × (h.promise.setting.value ≡ l.setting)) l.handles.items
    × (map (λ (h : _). h.promise.owner) l.handles.items ≡ map (λ (r : Receiver). OfReceiver r.dc) l.yielded)
