use Rattle.std.proofs.Common.{◌-◌, arith, inl, refl}
use Rattle.cops_types.specs.declared.op.OpName.{OpName}
use Rattle.cops_types.specs.Histories.{SessionStep}
use Rattle.cops_report.proofs.GainLemmas.{gains_more}
use Rattle.cops_report.proofs.StepLemmas.{marked_down, nearer_marked}
use Rattle.cops_report.proofs.search.mark_session.Goals as goal

pub loop-index-preserved : goal.loop-index-preserved
loop-index-preserved c =
    let h = c.args.history.now.sessions in
    let n : OpName = record { client = c.args.mark.next.client; index = c.loop-index.index - 1 } in
    let own : SessionStep h n c.args.mark.next = record { same_client = refl; earlier = omega (arith, c.loop-index-test.true, c.loop-index.auto.index); is_there = c.requires.named } in
    let g = c.in_ok-mark_new.ensures.gains h (inl own) in
    record {
      gains = gains_more h c.args.mark c.args.marks.now c.loop-index.marks c.mark_new.new.marks c.args.names.now.items c.loop-index.names.items c.mark_new.new.names.items c.loop-index.invariant.gains g;
      all = marked_down h c.args.mark c.loop-index.marks c.mark_new.new.marks c.loop-index.names.items c.mark_new.new.names.items n c.loop-index.index own (omega (arith, c.loop-index-test.true))
          c.loop-index.invariant.all g c.in_ok-mark_new.ensures.marked;
    }

pub returns-then-is_nearer-clause-all : goal.returns-then-is_nearer-clause-all
returns-then-is_nearer-clause-all c =
    let h = c.args.history.now.sessions in
    let n : OpName = record { client = c.args.mark.next.client; index = c.loop-index.index - 1 } in
    let own : SessionStep h n c.args.mark.next = record { same_client = refl; earlier = omega (arith, c.loop-index-test.true, c.loop-index.auto.index); is_there = c.requires.named } in
    nearer_marked h c.args.mark c.args.marks.now c.loop-index.marks c.args.names.now.items c.loop-index.names.items n c.loop-index.index own (omega (arith, c.loop-index-test.true))
    c.loop-index.invariant.all c.requires.nearer c.loop-index.invariant.gains (c.if-is_nearer.ensures.0 refl)
