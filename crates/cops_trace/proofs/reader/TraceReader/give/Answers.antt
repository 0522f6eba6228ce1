use Rattle.std.proofs.Common.{◌≡◌, ◌+◌, Bool, false, Option, None, sym, ap, ◌∙◌, subst, arith}
use Rattle.std.specs.Prelude.{option_map}
use Rattle.cops_trace.specs.Counts.{ACounts, progress_from}
use Rattle.cops_trace.specs.Next.{format_next}
use Rattle.cops_trace.specs.Reading.{IsWithinReach, Reading, counts_with, is_end}
use Rattle.cops_trace.proofs.Founds.{item_turn}
use Rattle.cops_trace.proofs.Items.{frame_most, given, stands_used}
use Rattle.cops_trace.proofs.Underway.{reach_after, stands_too, stopped_none, within_reach}
use Rattle.cops_trace.proofs.reader.TraceReader.give.Goals as goal

pub count-requires : goal.count-requires
count-requires c =
    let inside = c.self.inside in
    item_turn inside.at inside.counts inside.buffer c.args.item c.args.used (stands_too _ _ c.args.item c.args.used c.self.view_is c.requires.stands)

pub overflow_add-self : goal.overflow_add-self
overflow_add-self c =
    let inside = c.self.inside in
    let st = stands_too _ _ c.args.item c.args.used c.self.view_is c.requires.stands in
    let used = stands_used (option_map (progress_from inside.at) inside.counts) inside.buffer c.args.item c.args.used st in
    omega (arith, within_reach inside.counts inside.ended inside.at c.self.invariant.0, used.2, frame_most (format_next (option_map (progress_from inside.at) inside.counts)))

pub take-requires : goal.take-requires
take-requires c =
    let inside = c.self.inside in
    let st = stands_too _ _ c.args.item c.args.used c.self.view_is c.requires.stands in
    (stands_used (option_map (progress_from inside.at) inside.counts) inside.buffer c.args.item c.args.used st).1

pub invariant_of-self-2 : goal.invariant_of-self-2
invariant_of-self-2 c =
    let inside = c.self.inside in
    let item = c.args.item in
    let at = inside.at + c.args.used in
    let st = stands_too _ _ item c.args.used c.self.view_is c.requires.stands in
    let used = stands_used (option_map (progress_from inside.at) inside.counts) inside.buffer item c.args.used st in
    let allowed = (given (option_map (progress_from inside.at) inside.counts) st.frame item c.args.used st.found_is).0 in
    let going : inside.ended ≡ false = ap (λ (r : Reading). r.ended) c.self.view_is ∙ c.requires.open in
    let fine : inside.fault ≡ None = ap (λ (r : Reading). r.fault) c.self.view_is ∙ c.requires.fine in
    let reach : IsWithinReach inside.counts false inside.at = subst (λ (e : Bool). IsWithinReach inside.counts e inside.at) going c.self.invariant.0 in
    let after : IsWithinReach (counts_with item inside.counts) (is_end item) at = reach_after inside.at c.args.used inside.counts item allowed reach used.2 in
    let counted : IsWithinReach c.count.new.counts (is_end item) at = subst (λ (k : Option ACounts). IsWithinReach k (is_end item) at) (sym c.in-Ok.ensures.ok) after in (
      subst (λ (e : Bool). IsWithinReach c.count.new.counts e at) (sym c.is_end-self-inside.ensures) counted,
      stopped_none (record { counts = c.count.new.counts; at = at; ended = c.is_end-self-inside.result; rest = c.take.new.self; fault = inside.fault }) inside.fault fine,
    )
