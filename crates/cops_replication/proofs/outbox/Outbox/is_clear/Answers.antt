use Rattle.std.proofs.Common.{◌≡◌, length, arith}
use Rattle.cops_replication.proofs.Showing.{clear_is}
use Rattle.cops_replication.proofs.outbox.Outbox.is_clear.Goals as goal

pub returns : goal.returns
returns c =
    let count : c.len.result ≡ length c.self.inside.puts.items = omega (arith, c.self.inside.puts.ok.0) in
    clear_is c.self.inside.puts.items c.self.inside.lanes.items c.deref.result.now c.len.result c.args.self.now c.were_sent.result c.deref.ensures.value count c.self.view_is c.were_sent.ensures
