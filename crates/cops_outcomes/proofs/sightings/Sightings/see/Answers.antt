use Rattle.cops_outcomes.proofs.Seeing.{sighted_miss, sighted_op}
use Rattle.cops_outcomes.proofs.sightings.Sightings.see.Goals as goal

pub returns-in-Put-clause-seen : goal.returns-in-Put-clause-seen
returns-in-Put-clause-seen c = sighted_op c.see_put.result c.args.op c.in-Put.version c.args.self.now c.see_put.new.self c.in-Put.is c.see_put.ensures.seen

pub returns-clause-seen : goal.returns-clause-seen
returns-clause-seen c = λ ops. rw (c.in-Missed.is, ← c.self.view_is) (λ h. sighted_miss c.self.inside.writes _ c.self.inside.puts.keys ops h c.in-Missed.key)
