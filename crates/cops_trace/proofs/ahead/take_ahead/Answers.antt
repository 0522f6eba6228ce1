use Rattle.std.proofs.Common.{◌≡◌, ◌+◌, ℕ, Some, false, drop, arith, subst, sym}
use Rattle.cops_types.specs.OpViews.{op_viewed}
use Rattle.cops_trace.specs.Ahead.{AreSeen, GoesOn, reading_at}
use Rattle.cops_trace.specs.Counts.{ACounts}
use Rattle.cops_trace.specs.Reading.{IsWithinReach}
use Rattle.cops_trace.proofs.Aheads.{goes_here, goes_still, reach_here, room_next, stands_here, turn_next, within_here}
use Rattle.cops_trace.proofs.ahead.take_ahead.Goals as goal

pub loop-k-init : goal.loop-k-init
loop-k-init g c =
    let took = g.S.Sink.took in
    let r = reading_at c.args.counts.now c.args.at c.args.ahead.now.bytes.now in
    record {
      seen = c.requires.seen;
      within = omega arith;
      on = subst (λ (n : ℕ). GoesOn took c.args.begun.now r c.args.begun.now (reading_at c.args.counts.now n c.args.ahead.now.bytes.now)) (let same : c.args.at ≡ c.args.at + 0 = omega arith in same)
          (goes_still took c.args.begun.now r c.requires.underway);
      reach = (c.requires.reach.0, omega (arith, c.requires.reach.1));
    }

pub push-requires : goal.push-requires
push-requires g c =
    let took = g.S.Sink.took in
    room_next took c.loop-k.begun c.loop-k.counts (c.args.at + c.loop-k.used) c.index-place.result.now.used (drop c.loop-k.used c.args.ahead.now.bytes.now) c.index-place.result.now.client (op_viewed c.index.result.now) c.loop-k.invariant.on.underway
    (stands_here c.loop-k.counts c.args.at c.loop-k.used c.args.ahead.now.bytes.now c.args.ahead.now.places.items c.args.ahead.now.ops.items c.loop-k.invariant.seen c.loop-k.k (omega (arith, c.loop-k-test.true, c.len-k-end.ensures, c.args.ahead.now.places.ok.0)) c.index-place.result.now c.index-place.ensures
    c.index.result.now c.index.ensures (omega (arith, c.if-place-used.false)) c.in-None.ensures.none)

pub add-requires : goal.add-requires
add-requires g c =
    turn_next c.loop-k.counts (c.args.at + c.loop-k.used) c.index-place.result.now.used (drop c.loop-k.used c.args.ahead.now.bytes.now) c.index-place.result.now.client (op_viewed c.index.result.now)
    (stands_here c.loop-k.counts c.args.at c.loop-k.used c.args.ahead.now.bytes.now c.args.ahead.now.places.items c.args.ahead.now.ops.items c.loop-k.invariant.seen c.loop-k.k (omega (arith, c.loop-k-test.true, c.len-k-end.ensures, c.args.ahead.now.places.ok.0)) c.index-place.result.now c.index-place.ensures
    c.index.result.now c.index.ensures (omega (arith, c.if-place-used.false)) c.in-None.ensures.none)

pub overflow_add-used : goal.overflow_add-used
overflow_add-used g c =
    omega (
      arith,
      within_here c.loop-k.counts c.args.at c.loop-k.used c.args.ahead.now.bytes.now c.args.ahead.now.places.items c.args.ahead.now.ops.items c.loop-k.invariant.seen c.loop-k.k (omega (arith, c.loop-k-test.true, c.len-k-end.ensures, c.args.ahead.now.places.ok.0)) c.index-place.result.now c.index-place.ensures
          c.index.result.now c.index.ensures (omega (arith, c.if-place-used.false)) c.in-None.ensures.none c.loop-k.invariant.within,
    )

pub loop-k-preserved : goal.loop-k-preserved
loop-k-preserved g c =
    let took = g.S.Sink.took in
    let used = c.loop-k.used + c.index-place.result.now.used in
    let bytes = c.args.ahead.now.bytes.now in
    let counted = sym c.add.ensures in
    record {
      seen = subst (λ (k : ACounts). AreSeen k.format bytes c.args.ahead.now.places.items c.args.ahead.now.ops.items) counted c.loop-k.invariant.seen;
      within = within_here c.loop-k.counts c.args.at c.loop-k.used c.args.ahead.now.bytes.now c.args.ahead.now.places.items c.args.ahead.now.ops.items c.loop-k.invariant.seen c.loop-k.k (omega (arith, c.loop-k-test.true, c.len-k-end.ensures, c.args.ahead.now.places.ok.0)) c.index-place.result.now c.index-place.ensures
          c.index.result.now c.index.ensures (omega (arith, c.if-place-used.false)) c.in-None.ensures.none c.loop-k.invariant.within;
      on = subst (λ (k : ACounts). GoesOn took c.args.begun.now (reading_at c.args.counts.now c.args.at bytes) c.push.new.begun (reading_at k (c.args.at + used) (drop used bytes))) counted
          (goes_here c.loop-k.counts c.args.at c.loop-k.used c.args.ahead.now.bytes.now c.args.ahead.now.places.items c.args.ahead.now.ops.items c.loop-k.invariant.seen c.loop-k.k (omega (arith, c.loop-k-test.true, c.len-k-end.ensures, c.args.ahead.now.places.ok.0)) c.index-place.result.now c.index-place.ensures
          c.index.result.now c.index.ensures (omega (arith, c.if-place-used.false)) c.in-None.ensures.none
          took c.args.begun.now (reading_at c.args.counts.now c.args.at bytes) c.loop-k.begun c.push.new.begun c.loop-k.invariant.on c.in_ok-push.ensures);
      reach = subst (λ (k : ACounts). IsWithinReach (Some k) false (c.args.at + used)) counted (reach_here c.loop-k.counts c.args.at c.loop-k.used c.args.ahead.now.bytes.now c.args.ahead.now.places.items c.args.ahead.now.ops.items c.loop-k.invariant.seen c.loop-k.k (omega (arith, c.loop-k-test.true, c.len-k-end.ensures, c.args.ahead.now.places.ok.0)) c.index-place.result.now c.index-place.ensures
          c.index.result.now c.index.ensures (omega (arith, c.if-place-used.false)) c.in-None.ensures.none c.loop-k.invariant.reach);
    }
