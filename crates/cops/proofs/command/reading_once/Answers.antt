use Rattle.std.proofs.Common.{◌∙◌, ap}
use Rattle.cops_types.specs.Counted.{inner}
use Rattle.cops.proofs.Kept.{serves}
use Rattle.cops.proofs.command.reading_once.Goals as goal

pub returns-in-Explain-clause-well : goal.returns-in-Explain-clause-well
returns-in-Explain-clause-well g c = rw c.in-Explain.is (rw c.request.ensures at c.explain.ensures.accepted)

pub returns-in-Explain-clause-refused : goal.returns-in-Explain-clause-refused
returns-in-Explain-clause-refused g c = rw c.in-Explain.is (rw c.request.ensures at c.explain.ensures.refused)

pub returns-in-Check-clause-well : goal.returns-in-Check-clause-well
returns-in-Check-clause-well g c = rw c.in-Check.is (rw c.request-in-Check.ensures at c.check.ensures.accepted)

pub returns-in-Check-clause-refused : goal.returns-in-Check-clause-refused
returns-in-Check-clause-refused g c = rw c.in-Check.is (rw c.request-in-Check.ensures at c.check.ensures.refused)

pub returns-in-Check-clause-faulty : goal.returns-in-Check-clause-faulty
returns-in-Check-clause-faulty g c = λ is may. rw c.in-Check.is (rw c.request-in-Check.ensures at (c.check.ensures.faulty is))

pub returns-in-Serve-clause-well : goal.returns-in-Serve-clause-well
returns-in-Serve-clause-well g c = λ is.
    let s = c.in-Serve in
    rw s.is
    (serves _ s.port s.scenario s.sessions s.idle s.trace s.is_announced _ _ _ _ (c.serve.ensures.served is)
    (λ no. ap (λ m. g.T.Write.contents (inner m)) (c.serve.ensures.unkept (c.is_some.ensures ∙ no)))
    (λ yes. c.serve.ensures.traced (c.is_some.ensures ∙ yes) is))
