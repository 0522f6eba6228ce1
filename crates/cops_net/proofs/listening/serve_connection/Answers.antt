use Rattle.cops_net.proofs.Following.{is_session}
use Rattle.cops_net.proofs.listening.serve_connection.Goals as goal

pub returns-clause-served : goal.returns-clause-served
returns-clause-served g c = let s = c.serve_client-served.ensures.serves in (s.2, s.5, is_session _ _ s.1 s.2 s.3 s.0 s.7)
