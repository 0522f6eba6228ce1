use Rattle.std.proofs.Common.{◌≡◌, ◌++◌, map}
use Rattle.cops_cluster.specs.declared.client.Client.{Client}
use Rattle.cops_replication.specs.declared.receiver.Receiver.{Receiver}
use Rattle.cops_serve.proofs.ending.shares.Given as goal

abbrev pub invariant-loop-client : goal.invariant-loop-client
invariant-loop-client l = l.shares.items ≡ map (λ (c : Client). c.share) l.yielded

abbrev pub invariant-loop-receiver : goal.invariant-loop-receiver
invariant-loop-receiver l = l.shares.items ≡ map (λ (c : Client). c.share) l.fn.clients.items ++ map (λ (r : Receiver). r.share) l.yielded
