use Rattle.std.proofs.Common.{◌≡◌, None}
use Rattle.cops_serve.proofs.front_end.FrontEndSession.after_session.Given as goal

abbrev pub invariant-loop : goal.invariant-loop
invariant-loop g l =
    (l.self.calls.items ≡ l.fn.self.calls.items)
    × (l.self.greeted ≡ None)
    × (l.self.clients ≡ l.fn.self.clients)
    × (l.self.turns ≡ l.fn.self.turns)
    × (l.self.cluster ≡ l.fn.self.cluster)
    × (l.self.ended ≡ l.fn.self.ended)
