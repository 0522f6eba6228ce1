use Rattle.std.proofs.Common.{◌+◌, List, [], ◌++◌, refl, sym, ap, ◌∙◌, append_assoc, arith}
use Rattle.std.proofs.lemmas.List.{append-nil}
use Rattle.cops_net.specs.declared.reply.Call.{Call}
use Rattle.cops_net.proofs.Following.{served_more, session_more}
use Rattle.cops_net.proofs.listening.serve_connections.Goals as goal

pub loop-init : goal.loop-init
loop-init g c = ([], sym (append-nil _), refl, refl, refl, λ few. omega arith)

pub loop-preserved : goal.loop-preserved
loop-preserved g c =
    let l = c.loop.invariant in
    let s = c.serve_connection-served.ensures.served in (
      l.0 ++ s.0,
      c.after_session.ensures.kept ∙ s.1 ∙ ap (λ (x : List Call). x ++ s.0) l.1 ∙ append_assoc (g.S.Session.calls c.args.session.now) l.0 s.0,
      session_more _ c.loop.counter l.0 s.0 l.2 (rw l.4 at s.2),
      served_more _ g.S.Session.calls g.S.Session.ends c.loop.counter _ _ _ l.3 (_, s.0, s.1, rw l.4 at s.2, c.after_session.ensures.done),
      c.after_session.ensures.kept_format ∙ c.serve_connection-served.ensures.kept_format ∙ l.4,
      λ few. omega (arith, few, l.5 (omega (arith, few)), c.serve_connection-served.ensures.ended, c.after_session.ensures.counted (omega (arith, few, l.5 (omega (arith, few)), c.serve_connection-served.ensures.ended))),
    )

pub returns-clause-sessions : goal.returns-clause-sessions
returns-clause-sessions g c =
    let l = c.loop.invariant in
    (c.loop.counter, l.0, l.1, l.2, l.3, omega (arith, c.loop-test.false, c.loop.auto.counter-end), l.5)

pub returns-in-Err-clause-sessions : goal.returns-in-Err-clause-sessions
returns-in-Err-clause-sessions g c =
    let l = c.loop.invariant in
    let s = c.serve_connection-served.ensures.served in (
      c.loop.counter + 1,
      l.0 ++ s.0,
      c.after_session.ensures.kept ∙ s.1 ∙ ap (λ (x : List Call). x ++ s.0) l.1 ∙ append_assoc (g.S.Session.calls c.args.session.now) l.0 s.0,
      session_more _ c.loop.counter l.0 s.0 l.2 (rw l.4 at s.2),
      served_more _ g.S.Session.calls g.S.Session.ends c.loop.counter _ _ _ l.3 (_, s.0, s.1, rw l.4 at s.2, c.after_session.ensures.done),
      (omega arith, omega (arith, c.loop-test.true)),
      λ few. omega (arith, few, l.5 (omega (arith, few)), c.serve_connection-served.ensures.ended, c.after_session.ensures.counted (omega (arith, few, l.5 (omega (arith, few)), c.serve_connection-served.ensures.ended))),
    )
