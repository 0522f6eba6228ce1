-- Extending a run by one event at its end.
use Rattle.std.proofs.Common.{◌≡◌, List, [], ◌∷◌, ◌++◌, refl, subst}
use Rattle.cops_node.specs.declared.outcome.Outcome.{Outcome}
use Rattle.cops_core.specs.Memory.{Answers, AnswersEach}
use Rattle.cops_core.specs.World.{IsReached, Run, Setting, World, Event, Happens, act_of, opening}

pub run_more : (s : Setting) (events : List Event) (outcomes : List Outcome) (old mid new : World) (e : Event) (o : Outcome) → Run s old events outcomes mid → Happens s mid (act_of e) o new → Run s old (events ++ e ∷ []) (outcomes ++ o ∷ []) new
run_more s [] [] old mid new e o r h = (new, (subst (λ x. Happens s x (act_of e) o new) r h, refl))
run_more s [] (p ∷ outcomes) old mid new e o r h = absurd r
run_more s (f ∷ events) [] old mid new e o r h = absurd r
run_more s (f ∷ events) (p ∷ outcomes) old mid new e o r h = (r.0, (r.1.0, run_more s events outcomes r.0 mid new e o r.1.1 h))

pub reached_more : (s : Setting) (old new : World) (e : Event) (o : Outcome) → IsReached s old → Happens s old (act_of e) o new → IsReached s new
reached_more s old new e o r h = (r.0 ++ e ∷ [], r.1 ++ o ∷ [], run_more s r.0 r.1 (opening s) old new e o r.2 h)

pub reached_opening : (s : Setting) (w : World) → w ≡ opening s → IsReached s w
reached_opening s w e = ([], [], e)

pub answers_more : (s : Setting) (events : List Event) (outcomes : List Outcome) (old mid new : World) (e : Event) (o : Outcome) → AnswersEach s old events outcomes mid → Answers s mid (act_of e) o new → AnswersEach s old (events ++ e ∷ []) (outcomes ++ o ∷ []) new
answers_more s [] [] old mid new e o r h = (new, (subst (λ x. Answers s x (act_of e) o new) r h, refl))
answers_more s [] (p ∷ outcomes) old mid new e o r h = absurd r
answers_more s (f ∷ events) [] old mid new e o r h = absurd r
answers_more s (f ∷ events) (p ∷ outcomes) old mid new e o r h = (r.0, (r.1.0, answers_more s events outcomes r.0 mid new e o r.1.1 h))

-- events with such answers are a run
pub run_answered : (s : Setting) (events : List Event) (outcomes : List Outcome) (old new : World) → AnswersEach s old events outcomes new → Run s old events outcomes new
run_answered s [] [] old new r = r
run_answered s [] (p ∷ outcomes) old new r = absurd r
run_answered s (f ∷ events) [] old new r = absurd r
run_answered s (f ∷ events) (p ∷ outcomes) old new r = (r.0, (r.1.0.0, run_answered s events outcomes r.0 new r.1.1))
