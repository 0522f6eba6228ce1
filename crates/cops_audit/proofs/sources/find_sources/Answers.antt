use Rattle.std.proofs.Common.{◌≡◌, [], length, length-append, ◌∷◌, ap, sym, ◌∙◌, arith, slice_get}
use Rattle.cops_audit.proofs.Sourcing.{all_sourced, places_push}
use Rattle.cops_audit.proofs.sources.find_sources.Goals as goal

pub loop-number-preserved : goal.loop-number-preserved
loop-number-preserved c =
    let h = c.args.history.now in
    let old = c.loop-number.places.items in
    record {
      places = rw c.in_ok-push.ensures.items
          (places_push h c.args.table.now old c.in-Some.place c.loop-number.invariant.places (λ op get. c.in-Some.ensures op (ap (slice_get h.gets) (sym c.loop-number.invariant.count) ∙ get)));
      count = rw c.in_ok-push.ensures.items (omega (arith, length-append old (c.in-Some.place ∷ []), c.loop-number.invariant.count));
    }

pub returns : goal.returns
returns c =
    let places = c.loop-number.places.items in
    let whole : length places ≡ length c.args.history.now.gets = omega (arith, c.loop-number.invariant.count, c.loop-number.auto.number-end, c.loop-number-test.false, c.pending_reads-count.ensures.count) in
    record {
      places = c.loop-number.invariant.places;
      all = λ are. all_sourced c.args.history.now c.args.table.now places c.loop-number.invariant.places whole c.pending_reads-count.ensures.others;
    }
