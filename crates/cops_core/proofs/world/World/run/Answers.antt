use Rattle.std.proofs.Common.{◌≡◌, List, ◌+◌, ◌∙◌, ◌++◌, ◌∷◌, [], if◌then◌else◌, sym, ap, subst, arith, take}
use Rattle.std.specs.Result.{is_ok}
use Rattle.std.proofs.lemmas.Grind.{common_steps}
use Rattle.std.proofs.lemmas.List.{take_all, take_more}
use Rattle.cops_core.specs.Memory.{Answers, AnswersEach}
use Rattle.cops_core.specs.World.{Setting, Event, act_of}
use Rattle.cops_core.proofs.Running.{answers_more, run_answered}
use Rattle.cops_core.proofs.world.World.run.Goals as goal
use Rattle.cops_core.proofs.world.World.run.Goals.{After-unwrap}

more : (c : After-unwrap) → c.push.new.self.items ≡ c.loop-event.outcomes.items ++ c.answer.result ∷ []
more c =
    subst (λ r. c.push.new.self.items ≡ (if is_ok r then c.loop-event.outcomes.items ++ c.answer.result ∷ [] else c.loop-event.outcomes.items)) c.unwrap.ensures c.push.ensures.items

pub loop-event-preserved : goal.loop-event-preserved
loop-event-preserved c =
    let s = c.args.self.now.setting in
    let i = c.loop-event.event-index in
    let taken : take (i + 1) c.args.events.now ≡ take i c.args.events.now ++ c.event-item.result ∷ [] =
    take_more c.args.events.now i c.event-item.result c.loop-event-test.true ∙ ap (λ (e : Event). take i c.args.events.now ++ e ∷ []) (sym c.event-item.is) in
    let answers : Answers s c.loop-event.self.world (act_of c.event-item.result) c.answer.result c.answer.new.self.world =
    subst (λ (x : Setting). Answers x c.loop-event.self.world (act_of c.event-item.result) c.answer.result c.answer.new.self.world) c.loop-event.invariant.setting
    (c.answer.ensures.event, c.answer.ensures.memory) in
    let ran = answers_more s (take i c.args.events.now) c.loop-event.outcomes.items c.args.self.now.world c.loop-event.self.world c.answer.new.self.world c.event-item.result c.answer.result c.loop-event.invariant.ran answers in
    record {
      setting = c.answer.ensures.setting ∙ c.loop-event.invariant.setting;
      ran = rw (taken, more c) ran;
      answered = grind (arith, common_steps, more c);
      room = grind (arith, common_steps);
    }

pub returns-clause-ok : goal.returns-clause-ok
returns-clause-ok c =
    let all : take c.loop-event.event-index c.args.events.now ≡ c.args.events.now =
    take_all c.loop-event.event-index c.args.events.now (omega (arith, c.loop-event-test.false)) in
    let answered = subst (λ (es : List Event). AnswersEach c.args.self.now.setting c.args.self.now.world es c.loop-event.outcomes.items c.loop-event.self.world) all c.loop-event.invariant.ran in
    run_answered c.args.self.now.setting c.args.events.now c.loop-event.outcomes.items c.args.self.now.world c.loop-event.self.world answered
