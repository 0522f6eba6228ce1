-- A share that is borrowed from its client.
use Rattle.std.specs.Borrow.{Lends, MutBor, Fml}
use Rattle.cops_cluster.specs.declared.client.Client.{Client}
use Rattle.cops_cluster.specs.declared.share.Share.{Share}
use Rattle.cops_cluster.specs.contracts.client.Client.{the_row as the_client}
use Rattle.cops_cluster.specs.contracts.share.Share.{the_row as the_share}

-- the client, with this share in place of its own
abbrev pub with_share : Client → Share → Client
with_share c s = record c { share = s }

-- when the borrow ends, the client has the share that was left behind the reference
abbrev pub LendsShare : MutBor Client → MutBor Share → Fml
LendsShare client share = Lends the_client the_share client share (with_share client.now)
