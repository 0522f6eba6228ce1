use Rattle.std.proofs.Common.{[], refl, sym, ◌∙◌, inl}
use Rattle.std.proofs.lemmas.List.{append-nil}
use Rattle.cops_net.proofs.Readings.{appends_none}
use Rattle.cops_net.proofs.serving.turn.Goals as goal

pub returns-in-Ok-clause-answered : goal.returns-in-Ok-clause-answered
returns-in-Ok-clause-answered g c =
    let t = c.in-Ok.ensures.ok in
    let w = c.write_reply-written.ensures.answered (g.S.Session.format c.args.session.now) c.args.message t.0 t.2 in
    (t.0, w.0, t.1, w.1, w.2)

pub returns-in-Err-clause-answered : goal.returns-in-Err-clause-answered
returns-in-Err-clause-answered g c = ([], [], c.in-Err.ensures.err ∙ sym (append-nil _), appends_none _, (refl, inl refl))
