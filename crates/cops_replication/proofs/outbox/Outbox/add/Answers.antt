use Rattle.std.proofs.Common.{◌∙◌, ◌++◌, List, ap, map}
use Rattle.cops_types.specs.declared.put_record.PutRecord.{PutRecord}
use Rattle.cops_replication.specs.Lanes.{and_due, repeated, shown}
use Rattle.cops_replication.proofs.Showing.{shown_more}
use Rattle.cops_replication.proofs.outbox.Outbox.add.Goals as goal

pub returns-clause-ok : goal.returns-clause-ok
returns-clause-ok c =
    let more = repeated c.args.repeat c.args.puts.items in
    ap (λ ps. map (shown ps) c.self.inside.lanes.items) (c.in_ok-append.ensures.items ∙ ap (λ (l : List PutRecord). c.self.inside.puts.items ++ l) c.in_ok-puts.ensures)
    ∙ shown_more c.self.inside.puts.items more c.self.inside.lanes.items c.self.invariant
    ∙ ap (map (and_due more)) c.self.view_is
