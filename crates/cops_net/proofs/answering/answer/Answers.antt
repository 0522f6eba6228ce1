use Rattle.std.proofs.Common.{[], ◌∷◌, ◌++◌, sym, ap, ◌∙◌}
use Rattle.std.proofs.lemmas.List.{append-nil}
use Rattle.cops_net.proofs.Turning.{handed_turn, own_turn}
use Rattle.cops_net.proofs.answering.answer.Goals as goal

pub returns-then-not-is_handed-clause-ok : goal.returns-then-not-is_handed-clause-ok
returns-then-not-is_handed-clause-ok g c =
    let format = g.S.Session.format c.args.session.now in
    let own = rw c.format.ensures at (sym c.is_handed.ensures ∙ c.if-not-is_handed.true) in
    let e = c.own_reply-reply.ensures in
    ([], sym (append-nil _), own_turn format c.args.greeted c.args.message c.own_reply-reply.result own e.reply e.no_welcome (e.legal format))

pub returns-in-Ok-clause-ok : goal.returns-in-Ok-clause-ok
returns-in-Ok-clause-ok g c =
    let format = g.S.Session.format c.args.session.now in
    let handed = rw c.format.ensures at (sym c.is_handed.ensures ∙ c.if-not-is_handed.false) in
    let t = c.ask.ensures.reported in (
      t.0 ∷ [],
      t.1 ∙ ap (λ x. x ++ t.0 ∷ []) c.in-Ok.ensures.kept,
      handed_turn format c.args.greeted c.args.message t.0 c.ask.result handed t.2 t.3 t.4 (rw c.in-Ok.ensures.kept_format at c.ask.ensures.legal),
    )
