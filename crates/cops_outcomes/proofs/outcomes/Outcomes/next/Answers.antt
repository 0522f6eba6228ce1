use Rattle.cops_outcomes.proofs.Taking.{after_is, after_other, outcome_is}
use Rattle.cops_outcomes.proofs.outcomes.Outcomes.next.Goals as goal

pub returns-in_err-place-clause-after : goal.returns-in_err-place-clause-after
returns-in_err-place-clause-after c = λ ops earlier. rw (← c.self.view_is) (λ h. after_other c.self.inside.writes _ ops earlier h c.args.write.now c.in_err-place.ensures.place)

pub returns-clause-outcome : goal.returns-clause-outcome
returns-clause-outcome c = λ ops earlier. rw (← c.self.view_is)
    (λ h known. outcome_is _ c.self.inside.writes _ ops earlier h c.args.write.now c.in_ok-place.place c.in_ok-place.ensures.place c.in_ok-versions.versions.now c.in_ok-versions.ensures.value
    c.pop_front.result c.pop_front.new.self.items c.pop_front.ensures.items c.pop_front.ensures.rest)

pub returns-clause-after : goal.returns-clause-after
returns-clause-after c = λ ops earlier. rw (← c.self.view_is)
    (λ h. after_is _ c.self.inside.writes _ ops earlier h c.args.write.now c.in_ok-place.place c.in_ok-place.ensures.place c.in_ok-versions.versions.now c.in_ok-versions.ensures.value
    c.pop_front.new.self c.in_ok-place.ensures.distinct c.pop_front.ensures.rest)
