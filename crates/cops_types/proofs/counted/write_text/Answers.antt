use Rattle.std.proofs.Common.{sym, ◌∙◌, rules}
use Rattle.std.proofs.Math.Seq.{take-add}
use Rattle.std.specs.contracts.io.Error.{the_row}
use Rattle.cops_types.proofs.Devices.{appends_more, counted_some}
use Rattle.cops_types.proofs.counted.write_text.Goals as goal

pub loop-written-preserved : goal.loop-written-preserved
loop-written-preserved g c =
    let more = rw c.split_at.ensures.back at c.in-Ok.ensures.bytes in (
      appends_more _ _ _ _ _ _ c.loop-written.invariant.0 more (sym (take-add c.loop-written.written c.in-Ok.count c.args.text.now)),
      search rules,
      c.in-Ok.ensures.count ∙ counted_some the_row.Denot _ _ _ c.in-Ok.count-test.1 ∙ c.loop-written.invariant.2,
    )
