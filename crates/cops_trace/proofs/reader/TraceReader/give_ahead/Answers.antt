use Rattle.std.proofs.Common.{◌≡◌, ◌+◌, drop, Option, Some, None, false, refl, sym, ap, subst, ◌∙◌}
use Rattle.std.specs.Option.{is_some}
use Rattle.cops_trace.specs.declared.fault.TraceFault.{TraceFault}
use Rattle.cops_trace.specs.Ahead.{GoesOn, reading_at}
use Rattle.cops_trace.specs.Reading.{Reading}
use Rattle.cops_trace.proofs.Aheads.{goes_ready}
use Rattle.cops_trace.proofs.reader.TraceReader.give_ahead.Goals as goal

none_of : (o : Option TraceFault) → is_some o ≡ false → o ≡ None
none_of None e = refl
none_of (Some f) e = cc

pub returns-clause-on : goal.returns-clause-on
returns-clause-on g c =
    let took = g.S.Sink.took in
    let inside = c.self.inside in
    let used = c.in_ok-len.len in
    let bytes = c.see_ahead-ahead.result.bytes.now in
    let counts = c.take_ahead-taken.new.counts in
    let begun = c.take_ahead-taken.new.begun in
    let same : bytes ≡ inside.buffer = c.see_ahead-ahead.ensures.bytes ∙ c.rest.ensures in
    let going : inside.ended ≡ false = c.if-self.false in
    let fine : inside.fault ≡ None = none_of inside.fault (sym c.is_some.ensures ∙ c.if-is_some.false) in
    let from : inside.counts ≡ Some c.in-Some.counts = c.in-Some.is in
    let on = goes_ready took c.args.begun.now c.prefetch.new.begun begun _ _ c.prefetch.ensures c.in_ok-len.ensures.on in
    let old : reading_at c.in-Some.counts inside.at bytes ≡ c.args.self.now = (λ j. record { counts = sym from j; at = inside.at; ended = sym going j; rest = same j; fault = sym fine j }) ∙ c.self.view_is in
    let left : drop used bytes ≡ c.take.new.self = ap (drop used) same ∙ sym c.take.ensures in
    let new : reading_at counts (inside.at + used) (drop used bytes) ≡ record { counts = Some counts; at = inside.at + used; ended = inside.ended; rest = c.take.new.self; fault = inside.fault } =
    (λ j. record { counts = Some counts; at = inside.at + used; ended = sym going j; rest = left j; fault = sym fine j }) in
    subst (λ (r : Reading). GoesOn took c.args.begun.now c.args.self.now begun r) new (subst (λ (r : Reading). GoesOn took c.args.begun.now r begun (reading_at counts (inside.at + used) (drop used bytes))) old on)
