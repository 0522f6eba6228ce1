-- A share that is borrowed from its receiver.
use Rattle.std.specs.Borrow.{Lends, MutBor, Fml}
use Rattle.cops_cluster.specs.declared.share.Share.{Share}
use Rattle.cops_cluster.specs.contracts.share.Share.{the_row as the_share}
use Rattle.cops_replication.specs.declared.receiver.Receiver.{Receiver}
use Rattle.cops_replication.specs.contracts.receiver.Receiver.{the_row as the_receiver}

-- the receiver, with this share in place of its own
abbrev pub with_share : Receiver → Share → Receiver
with_share r s = record r { share = s }

-- when the borrow ends, the receiver has the share that was left behind the reference
abbrev pub LendsShare : MutBor Receiver → MutBor Share → Fml
LendsShare receiver share = Lends the_receiver the_share receiver share (with_share receiver.now)
