use Rattle.std.proofs.Common.{ℕ, [], Err, refl, sym, subst, ◌∙◌, arith, inl}
use Rattle.std.proofs.lemmas.List.{append-nil}
use Rattle.std.proofs.lemmas.Result.{err_from_is_err_and}
use Rattle.cops_types.specs.declared.format.Format.{Format}
use Rattle.cops_types.specs.Counted.{failures, inner}
use Rattle.cops_types.specs.Failures.{Failed}
use Rattle.cops_types.proofs.Devices.{consumed_none}
use Rattle.cops_net.proofs.Going.{begun, heard_ok, put_error, same_error}
use Rattle.cops_net.proofs.Readings.{appends_none}
use Rattle.cops_net.proofs.Underway.{Turned, starts, fails_reading, ends_there, is_full, fails_answering, says_bye, goes_further}
use Rattle.cops_net.proofs.serving.serve_session.Goals as goal

pub returns-in_err-or-clause-serves : goal.returns-in_err-or-clause-serves
returns-in_err-or-clause-serves g c =
    let p = err_from_is_err_and c.from_residual.result c.from_residual.ensures.1 in
    ([], [], [], consumed_none _, sym (append-nil _), appends_none _, rw (p.1, p.2, put_error _ _ _ c.in_err-or.ensures) ([], [], refl, inl (begun _)))

pub loop-answered-init : goal.loop-answered-init
loop-answered-init g c = record { going = starts (g.S.Session.format c.args.session.now) _ _ _ c.new-incoming.ensures.rest; reads = refl; writes = refl; format = refl; whole = c.new-incoming.ensures.whole; ended = refl }

pub returns-in_err-message-clause-serves : goal.returns-in_err-message-clause-serves
returns-in_err-message-clause-serves g c =
    let p = err_from_is_err_and c.from_residual-in_err-message.result c.from_residual-in_err-message.ensures.1 in
    rw (p.1, p.2) (fails_reading c.loop-answered.invariant.going c.format-format.ensures c.phase.ensures (g.I.Read.remaining (inner c.next.new.reader)) c.next.new.self.feeder.rest c.in_err-message.field-0.0 c.in_err-message.ensures.next)

pub returns-in-None-clause-serves : goal.returns-in-None-clause-serves
returns-in-None-clause-serves g c =
    ends_there c.loop-answered.invariant.going c.format-format.ensures c.phase.ensures (g.I.Read.remaining (inner c.next.new.reader)) c.next.new.self.feeder.rest c.loop-answered.answered refl (rw c.in-None.is at c.in_ok-message.ensures.next)

pub returns-in_err-greeted-clause-serves : goal.returns-in_err-greeted-clause-serves
returns-in_err-greeted-clause-serves g c =
    let p = err_from_is_err_and c.from_residual-in_err-greeted.result c.from_residual-in_err-greeted.ensures.1 in
    let calls = g.S.Session.calls in
    let contents = g.W.Write.contents in
    let turned = subst (λ (f : Format). Turned f (calls c.loop-answered.session) (calls c.turn.new.session) (contents (inner c.loop-answered.writer)) (contents (inner c.turn.new.writer))
    c.loop-answered.greeted c.in-Some.message (Err c.in_err-greeted.field-0.0)) c.loop-answered.invariant.format c.in_err-greeted.ensures.answered in
    rw (p.1, p.2) (fails_answering c.loop-answered.invariant.going c.format-format.ensures c.phase.ensures (g.I.Read.remaining (inner c.next.new.reader)) c.next.new.self.feeder.rest c.in-Some.message (rw c.in-Some.is at c.in_ok-message.ensures.next) (g.S.Session.calls c.turn.new.session) (g.W.Write.contents (inner c.turn.new.writer))
    c.in_err-greeted.field-0.0 turned)

pub returns-in_err-greeted-clause-write_count : goal.returns-in_err-greeted-clause-write_count
returns-in_err-greeted-clause-write_count g c =
    let p = err_from_is_err_and c.from_residual-in_err-greeted.result c.from_residual-in_err-greeted.ensures.1 in
    rw (p.1, p.2) (λ h. subst (λ (n : ℕ). Failed n (failures c.turn.new.writer)) c.loop-answered.invariant.writes (c.in_err-greeted.ensures.failed (same_error _ _ h)))

pub returns-then-ends-clause-serves : goal.returns-then-ends-clause-serves
returns-then-ends-clause-serves g c =
    says_bye c.loop-answered.invariant.going c.format-format.ensures c.phase.ensures (g.I.Read.remaining (inner c.next.new.reader)) c.next.new.self.feeder.rest c.in-Some.message (rw c.in-Some.is at c.in_ok-message.ensures.next) (g.S.Session.calls c.turn.new.session) (g.W.Write.contents (inner c.turn.new.writer))
    c.in_ok-greeted.greeted (rw c.loop-answered.invariant.format at c.in_ok-greeted.ensures.answered) (sym c.is_bye-ends.ensures ∙ c.if-ends.true)

pub loop-answered-preserved : goal.loop-answered-preserved
loop-answered-preserved g c = record {
  going =
      goes_further c.loop-answered.invariant.going c.format-format.ensures c.phase.ensures (g.I.Read.remaining (inner c.next.new.reader)) c.next.new.self.feeder.rest c.in-Some.message (rw c.in-Some.is at c.in_ok-message.ensures.next) (g.S.Session.calls c.turn.new.session) (g.W.Write.contents (inner c.turn.new.writer))
      c.in_ok-greeted.greeted (rw c.loop-answered.invariant.format at c.in_ok-greeted.ensures.answered) (sym c.is_bye-ends.ensures ∙ c.if-ends.false);
  reads = heard_ok _ _ c.in_ok-message.ensures.heard ∙ c.loop-answered.invariant.reads;
  writes = heard_ok _ _ c.in_ok-greeted.ensures.heard ∙ c.loop-answered.invariant.writes;
  format = c.in_ok-greeted.ensures.kept_format ∙ c.loop-answered.invariant.format;
  whole = c.in_ok-message.ensures.whole;
  ended = c.in_ok-greeted.ensures.ended ∙ c.loop-answered.invariant.ended;
}

pub returns-in_err-message-2-clause-serves : goal.returns-in_err-message-2-clause-serves
returns-in_err-message-2-clause-serves g c =
    let p = err_from_is_err_and c.from_residual-in_err-message-2.result c.from_residual-in_err-message-2.ensures.1 in
    rw (p.1, p.2) (fails_reading c.loop-answered.invariant.going c.format-format.ensures c.phase-2.ensures (g.I.Read.remaining (inner c.next-2.new.reader)) c.next-2.new.self.feeder.rest c.in_err-message-2.field-0.0 c.in_err-message-2.ensures.next)

pub returns-in-Some-2-clause-serves : goal.returns-in-Some-2-clause-serves
returns-in-Some-2-clause-serves g c =
    is_full c.loop-answered.invariant.going c.format-format.ensures c.phase-2.ensures (g.I.Read.remaining (inner c.next-2.new.reader)) c.next-2.new.self.feeder.rest c.in-Some-2.message
    (omega (arith, c.loop-answered-test.false, c.loop-answered.auto.answered-end)) (rw c.in-Some-2.is at c.in_ok-message-2.ensures.next)

pub returns-clause-serves : goal.returns-clause-serves
returns-clause-serves g c =
    ends_there c.loop-answered.invariant.going c.format-format.ensures c.phase-2.ensures (g.I.Read.remaining (inner c.next-2.new.reader)) c.next-2.new.self.feeder.rest 1000000
    (omega (arith, c.loop-answered-test.false, c.loop-answered.auto.answered-end)) (rw c.in-None-2.is at c.in_ok-message-2.ensures.next)
