use Rattle.std.proofs.Common.{◌≡◌, All, map}
use Rattle.cops_cluster.specs.declared.share.Holder.TheVariants.{Client as OfClient}
use Rattle.cops_clients.specs.declared.clients.ClientTask.{ClientTask}
use Rattle.cops_clients.proofs.driving.start_clients.Given as goal

abbrev pub invariant-loop-task : goal.invariant-loop-task
invariant-loop-task g l =
    (goal.iterator-loop-task g).can_next l.task-iterator
    × (goal.iterator-loop-task g).is_finite l.task-iterator
    × All (λ (h : _). (h.promise.gate.value ≡ l.gate) × (h.promise.setting.value ≡ l.setting)) l.handles.items
    × (map (λ (h : _). h.promise.owner) l.handles.items ≡ map (λ (j : ClientTask). OfClient j.client.number) l.yielded)
