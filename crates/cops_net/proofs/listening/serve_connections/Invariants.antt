use Rattle.std.proofs.Common.{◌≡◌, ◌<◌, ◌+◌, ◌^◌, List, ◌++◌}
use Rattle.cops_net.specs.declared.reply.Call.{Call}
use Rattle.cops_net.specs.Listening.{AreSessions, AreServed}
use Rattle.cops_net.proofs.listening.serve_connections.Given as goal

abbrev pub invariant-loop : goal.invariant-loop
invariant-loop g l =
    let calls = g.S.Session.calls in
    (gained : List Call) × (calls l.session ≡ calls l.fn.session ++ gained) × AreSessions (g.S.Session.format l.fn.session) l.counter gained
    × AreServed (g.S.Session.format l.fn.session) calls g.S.Session.ends l.counter l.fn.session l.session
    × (g.S.Session.format l.session ≡ g.S.Session.format l.fn.session)
    × (g.S.Session.ended l.fn.session + l.counter < 2 ^ 64 → g.S.Session.ended l.session ≡ g.S.Session.ended l.fn.session + l.counter)
