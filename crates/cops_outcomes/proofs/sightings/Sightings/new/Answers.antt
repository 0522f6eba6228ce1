use Rattle.cops_outcomes.proofs.Seeing.{nothing_seen}
use Rattle.cops_outcomes.proofs.sightings.Sightings.new.Goals as goal

pub returns-clause-nothing : goal.returns-clause-nothing
returns-clause-nothing c = nothing_seen c.args.writes _ c.new.result.keys c.len.result c.in_ok-returned.ensures.ok c.len.ensures c.new.ensures.empty
