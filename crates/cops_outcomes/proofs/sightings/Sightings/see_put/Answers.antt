use Rattle.cops_outcomes.proofs.Seeing.{sighted_put}
use Rattle.cops_outcomes.proofs.sightings.Sightings.see_put.Goals as goal

pub returns-clause-seen : goal.returns-clause-seen
returns-clause-seen c = λ ops key content. rw (← c.self.view_is)
    (λ h. sighted_put c.self.inside.writes _ c.self.inside.puts.keys ops h c.insert.new.self.keys key content c.args.version c.in_ok-insert.ensures.updates.0)
