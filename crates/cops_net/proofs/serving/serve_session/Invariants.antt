use Rattle.std.proofs.Common.{◌≡◌, None}
use Rattle.cops_types.specs.Counted.{failures, inner}
use Rattle.cops_net.proofs.Underway.{Underway}
use Rattle.cops_net.proofs.serving.serve_session.Given as goal

abbrev pub invariant-loop-answered : goal.invariant-loop-answered
invariant-loop-answered g l =
    let remaining = g.I.Read.remaining in
    let contents = g.W.Write.contents in
    let calls = g.S.Session.calls in
    record {
      going : Underway (g.S.Session.format l.fn.session) (remaining (inner l.fn.reader)) (remaining (inner l.reader)) (calls l.fn.session) (calls l.session) (contents (inner l.fn.writer)) (contents (inner l.writer)) l.incoming.feeder.rest l.greeted l.answered;
      reads : failures l.reader ≡ failures l.fn.reader;
      writes : failures l.writer ≡ failures l.fn.writer;
      format : g.S.Session.format l.session ≡ g.S.Session.format l.fn.session;
      whole : l.incoming.feeder.fault ≡ None;
      ended : g.S.Session.ended l.session ≡ g.S.Session.ended l.fn.session;
    }
