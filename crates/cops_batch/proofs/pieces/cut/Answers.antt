use Rattle.std.proofs.Common.{◌≡◌, length, arith, ◌∙◌}
use Rattle.std.proofs.lemmas.List.Elements.{All-push}
use Rattle.cops_batch.specs.Pieces.{LiesWithin}
use Rattle.cops_batch.proofs.Cuts.{cut_more, lengths_more, next_start}
use Rattle.cops_batch.proofs.pieces.cut.Goals as goal

pub loop-number-preserved : goal.loop-number-preserved
loop-number-preserved c =
    let ps = c.loop-number.pieces.items in
    let inv = c.loop-number.invariant in
    let so_many : length ps ≡ c.loop-number.number = omega (arith, inv.len, c.loop-number.pieces.ok.0) in
    let next = next_start c.args.count c.args.workers c.loop-number.number c.loop-number.start c.from-in-loop-number-2.result (omega arith) (omega arith)
    (rw (c.from.ensures, c.from-2.ensures) at inv.start) (rw (c.from-2.ensures, c.from-in-loop-number.ensures) at c.from-in-loop-number-2.ensures) in
    record {
      start = rw (c.from.ensures, c.from-2.ensures) next.0;
      cut = rw (c.in_ok-push.ensures.items, ← c.new.ensures.2) (cut_more 0 0 c.loop-number.start ps c.new.result inv.cut (omega (arith, c.new.ensures.0)) c.new.ensures.1);
      within = rw c.in_ok-push.ensures.items (All-push (LiesWithin c.args.count) ps c.new.result inv.within (omega (arith, next.1, c.new.ensures.1, c.new.ensures.2, rw c.from.ensures at c.new.ensures.2)));
      lengths = rw c.in_ok-push.ensures.items (lengths_more c.args.count c.args.workers c.loop-number.number ps c.new.result so_many inv.lengths ((rw c.from.ensures at c.new.ensures.2) ∙ next.2));
      len = omega (arith, c.in_ok-push.ensures.len, inv.len);
    }

pub overflow_add-start : goal.overflow_add-start
overflow_add-start c =
    let next = next_start c.args.count c.args.workers c.loop-number.number c.loop-number.start c.from-in-loop-number-2.result (omega arith) (omega arith)
    (rw (c.from.ensures, c.from-2.ensures) at c.loop-number.invariant.start) (rw (c.from-2.ensures, c.from-in-loop-number.ensures) at c.from-in-loop-number-2.ensures) in
    rw c.from.ensures (omega (arith, next.1))
