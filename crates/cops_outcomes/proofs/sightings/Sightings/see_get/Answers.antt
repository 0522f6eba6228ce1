use Rattle.std.proofs.Common.{refl}
use Rattle.cops_outcomes.proofs.Seeing.{get_is, sighted_other}
use Rattle.cops_outcomes.proofs.sightings.Sightings.see_get.Goals as goal

pub returns-in_ok-insert-clause-seen : goal.returns-in_ok-insert-clause-seen
returns-in_ok-insert-clause-seen c = λ ops. rw (← c.self.view_is)
    (λ h. get_is c.self.inside.writes _ c.self.inside.puts.keys ops h c.args.got.now c.args.version _ c.self.inside.returned.items refl c.in-Some.place c.in-Some.ensures.place
    c.in-Some-get_mut.versions.now c.in-Some-get_mut.ensures.value c.insert.new.self c.in-Some.ensures.distinct c.in_ok-insert.ensures.keys)

pub returns-in_default-clause-seen : goal.returns-in_default-clause-seen
returns-in_default-clause-seen c = λ ops. rw (← c.self.view_is) (λ h. sighted_other c.self.inside.writes _ c.self.inside.puts.keys ops h c.args.got.now c.args.version c.in_default.ensures.place)
