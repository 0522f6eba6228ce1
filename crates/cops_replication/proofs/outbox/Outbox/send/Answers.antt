use Rattle.std.proofs.Common.{◌≡◌, ◌∙◌, List, OnOk, map, subst, sym}
use Rattle.std.proofs.lemmas.List.{with_items_is}
use Rattle.std.specs.Vec.{with_items}
use Rattle.cops_types.specs.declared.put_record.PutRecord.{PutRecord}
use Rattle.cops_replication.specs.declared.outbox.Lane.{Lane}
use Rattle.cops_replication.specs.Lanes.{AreClearOrFull, shown}
use Rattle.cops_replication.proofs.outbox.Outbox.send.Goals as goal

pub returns-clause-filled : goal.returns-clause-filled
returns-clause-filled c =
    let are : (with_items c.self.inside.lanes c.send_on.new.lanes).items ≡ c.send_on.new.lanes = with_items_is c.self.inside.lanes c.send_on.new.lanes (c.send_on.auto.lanes ∙ c.deref_mut.ensures.len) in
    let all : OnOk c.send_on.result (AreClearOrFull (map (shown c.self.inside.puts.items) c.send_on.new.lanes)) =
    subst (λ (ps : List PutRecord). OnOk c.send_on.result (AreClearOrFull (map (shown ps) c.send_on.new.lanes))) c.deref.ensures.value c.send_on.ensures.filled in
    subst (λ (ls : List Lane). OnOk c.send_on.result (AreClearOrFull (map (shown c.self.inside.puts.items) ls))) (sym are) all
