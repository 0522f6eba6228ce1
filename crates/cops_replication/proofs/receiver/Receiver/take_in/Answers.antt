use Rattle.std.proofs.Common.{◌≡◌, ◌∙◌, ◌+◌, ◌<◌, ◌≤◌, List, Option, Some, None, drop, length, set, ap, refl, subst, sym, arith}
use Rattle.std.proofs.lemmas.List.{length-set}
use Rattle.std.specs.Global.{Vec}
use Rattle.cops_link.specs.declared.ends.LinkOut.{LinkOut}
use Rattle.cops_link.specs.Frame.{encoded}
use Rattle.cops_replication.specs.Doing.{at_hand, frames_taken}
use Rattle.cops_replication.proofs.Doings.{count_one, empty_more, none_taken, one_taken}
use Rattle.cops_replication.specs.declared.arrival.Arrival.{Arrival}
use Rattle.cops_replication.specs.Receiving.{EachTakesUpTo, ends}
use Rattle.cops_replication.proofs.Gained.{gains_refl, gains_trans}
use Rattle.cops_replication.proofs.Taken.{each_takes_none, each_step, rest_set}
use Rattle.cops_replication.proofs.receiver.Receiver.take_in.Goals as goal

at_hand_few : (a : Option Arrival) → at_hand a ≤ 1
at_hand_few None = omega arith
at_hand_few (Some arrival) = omega arith

pub returns-in_err-delivered-clause-links : goal.returns-in_err-delivered-clause-links
returns-in_err-delivered-clause-links g c =
    subst (λ (v : Vec LinkOut). EachTakesUpTo 1 v.items (ends c.arrive.new.self)) c.arrive.ensures.same.1 (each_takes_none 1 (ends c.arrive.new.self))

pub loop-k-init : goal.loop-k-init
loop-k-init g c = record {
  dc = refl;
  count = refl;
  takes = each_takes_none 1 (ends c.arrive.new.self);
  rest = refl;
  share = gains_refl c.arrive.new.self.share;
  still = refl;
  none = c.in_ok-delivered.ensures.did.1;
  more = omega arith;
  did = omega (arith, c.in_ok-delivered.ensures.did.0, at_hand_few c.args.self.now.arrival);
  idle = λ none j d less. absurd (omega (arith, less));
}

pub returns-in_err-arrival-clause-links : goal.returns-in_err-arrival-clause-links
returns-in_err-arrival-clause-links g c =
    let within : c.loop-k.k < length (ends c.arrive.new.self) = omega (arith, c.arrive.new.self.links.ok.0) in
    subst (λ (v : Vec LinkOut). EachTakesUpTo 1 v.items (set c.loop-k.self.links.items c.loop-k.k c.next_arrival.new.link)) c.arrive.ensures.same.1
    (each_step (ends c.arrive.new.self) (ends c.loop-k.self) c.loop-k.k c.index_mut.result.now c.next_arrival.new.link within c.loop-k.invariant.takes c.loop-k.invariant.rest c.index_mut.ensures.value c.next_arrival.ensures.takes)

pub loop-k-preserved-in_default : goal.loop-k-preserved-in_default
loop-k-preserved-in_default g c =
    let within : c.loop-k.k < length (ends c.arrive.new.self) = omega (arith, c.arrive.new.self.links.ok.0) in
    let inside : c.loop-k.k < length (ends c.loop-k.self) = omega (arith, within, c.loop-k.invariant.count) in
    let nothing = rw c.in_default.is at c.in_ok-arrival.ensures.none in
    let frames = none_taken (ends c.loop-k.self) c.loop-k.k c.index_mut.result.now c.next_arrival.new.link inside c.index_mut.ensures.value nothing.0 in
    record {
      dc = c.loop-k.invariant.dc;
      count = length-set (ends c.loop-k.self) c.loop-k.k c.next_arrival.new.link ∙ c.loop-k.invariant.count;
      takes = each_step (ends c.arrive.new.self) (ends c.loop-k.self) c.loop-k.k c.index_mut.result.now c.next_arrival.new.link within c.loop-k.invariant.takes c.loop-k.invariant.rest c.index_mut.ensures.value c.next_arrival.ensures.takes;
      rest = rest_set (ends c.arrive.new.self) (ends c.loop-k.self) c.loop-k.k c.next_arrival.new.link c.loop-k.invariant.rest;
      share = c.loop-k.invariant.share;
      still = c.loop-k.invariant.still;
      none = c.loop-k.invariant.none;
      more = omega (arith, frames, c.loop-k.invariant.more);
      did = omega (arith, frames, c.loop-k.invariant.did);
      idle = λ none. empty_more (ends c.loop-k.self) c.loop-k.k c.next_arrival.new.link inside nothing.1 (c.loop-k.invariant.idle none);
    }

pub returns-in_err-more-clause-links : goal.returns-in_err-more-clause-links
returns-in_err-more-clause-links g c =
    let within : c.loop-k.k < length (ends c.arrive.new.self) = omega (arith, c.arrive.new.self.links.ok.0) in
    let after = ap (λ (v : Vec LinkOut). v.items) c.arrive-in-loop-k.ensures.same.1 in
    subst (λ (v : Vec LinkOut). EachTakesUpTo 1 v.items (ends c.arrive-in-loop-k.new.self)) c.arrive.ensures.same.1
    (subst (λ (ls : List LinkOut). EachTakesUpTo 1 (ends c.arrive.new.self) ls) (sym after)
    (each_step (ends c.arrive.new.self) (ends c.loop-k.self) c.loop-k.k c.index_mut.result.now c.next_arrival.new.link within c.loop-k.invariant.takes c.loop-k.invariant.rest c.index_mut.ensures.value c.next_arrival.ensures.takes))

pub loop-k-preserved : goal.loop-k-preserved
loop-k-preserved g c =
    let within : c.loop-k.k < length (ends c.arrive.new.self) = omega (arith, c.arrive.new.self.links.ok.0) in
    let after = ap (λ (v : Vec LinkOut). v.items) c.arrive-in-loop-k.ensures.same.1 in
    let inside : c.loop-k.k < length (ends c.loop-k.self) = omega (arith, within, c.loop-k.invariant.count) in
    let frame = rw c.in-Some.is at c.in_ok-arrival.ensures.some in
    let frames = one_taken (ends c.loop-k.self) c.loop-k.k c.index_mut.result.now c.next_arrival.new.link (encoded c.in-Some.arrival.put) inside c.index_mut.ensures.value frame in
    let all : frames_taken (ends c.arrive-in-loop-k.new.self) ≡ frames_taken (set (ends c.loop-k.self) c.loop-k.k c.next_arrival.new.link) = ap frames_taken after in
    let one : c.in_ok-more.more ≡ 1 = c.in_ok-more.ensures.did.0 ∙ ap at_hand c.replace.ensures.after in
    record {
      dc = c.arrive-in-loop-k.ensures.same.0 ∙ c.loop-k.invariant.dc;
      count = ap (λ (ls : List LinkOut). length ls) after ∙ length-set (ends c.loop-k.self) c.loop-k.k c.next_arrival.new.link ∙ c.loop-k.invariant.count;
      takes = subst (λ (ls : List LinkOut). EachTakesUpTo 1 (ends c.arrive.new.self) ls) (sym after)
          (each_step (ends c.arrive.new.self) (ends c.loop-k.self) c.loop-k.k c.index_mut.result.now c.next_arrival.new.link within c.loop-k.invariant.takes c.loop-k.invariant.rest c.index_mut.ensures.value c.next_arrival.ensures.takes);
      rest = ap (λ (ls : List LinkOut). drop (c.loop-k.k + 1) ls) after ∙ rest_set (ends c.arrive.new.self) (ends c.loop-k.self) c.loop-k.k c.next_arrival.new.link c.loop-k.invariant.rest;
      share = gains_trans c.arrive.new.self.share c.loop-k.self.share c.arrive-in-loop-k.new.self.share c.loop-k.invariant.share c.arrive-in-loop-k.ensures.share;
      still = c.arrive-in-loop-k.ensures.still ∙ c.loop-k.invariant.still;
      none = c.in_ok-more.ensures.did.1;
      more = omega (arith, all, frames, c.loop-k.invariant.more);
      did = count_one (frames_taken (ends c.arrive.new.self)) (frames_taken (ends c.loop-k.self)) (frames_taken (ends c.arrive-in-loop-k.new.self)) (at_hand c.args.self.now.arrival) c.in_ok-more.more c.loop-k.delivered
          c.saturating_add-delivered.result c.loop-k.invariant.more (all ∙ frames) one c.loop-k.invariant.did c.saturating_add-delivered.ensures;
      idle = λ none j d less. absurd (omega (arith, none, one, c.saturating_add-delivered.ensures));
    }
