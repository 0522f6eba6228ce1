use Rattle.std.proofs.Common.{◌∙◌, ap}
use Rattle.cops_outcomes.proofs.Taking.{after_none, free_each, made}
use Rattle.cops_outcomes.proofs.sightings.Sightings.outcomes.Goals as goal

pub returns-clause-after : goal.returns-clause-after
returns-clause-after c = λ ops. rw (← c.self.view_is)
    (λ h. made c.new.result c.self.inside.writes _ ops _ c.new.ensures.writes (c.new.ensures.rest ∙ c.in_ok-rest.ensures.ok)
    (after_none _ _ c.self.inside.writes c.self.inside.puts.keys _ ops (ap (free_each _ c.self.inside.puts.keys) c.deref.ensures.value) h))
