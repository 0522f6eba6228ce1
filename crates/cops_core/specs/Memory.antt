-- The answers whose acts allocate.
use Rattle.std.specs.Prelude.{◌≡◌, Bool, true, false, List, [], ◌∷◌}
use Rattle.cops_types.specs.declared.refusal.Refusal.{Refusal}
use Rattle.cops_types.specs.declared.refusal.Refusal.TheVariants.{ClockExhausted, Memory, NoYes}
use Rattle.cops_node.specs.declared.outcome.Outcome.{Outcome}
use Rattle.cops_node.specs.declared.outcome.Outcome.TheVariants.{Refused}
use Rattle.cops_core.specs.World.{Act, Event, Happens, MarkAt, WriteBy, Setting, World, act_of, happens}

-- a refusal that is checked after an allocation: of a write whose clock is exhausted, and of a mark without a Yes answer
abbrev pub is_late : Act → Refusal → Bool
is_late (WriteBy client key content) ClockExhausted = true
is_late (MarkAt dc version dep) NoYes = true
is_late _ _ = false

-- the act allocates before this answer: before each but the refusals that are checked earlier
abbrev pub TakesMemory : Act → Outcome → Type 0
TakesMemory act (Refused refused) = is_late act refused ≡ true
TakesMemory act outcome = Unit {0}

-- an act has this outcome, which is `Memory` only if the act allocates before the outcome that it would have
abbrev pub Answers : Setting → World → Act → Outcome → World → Type 0
Answers s old act outcome new = Happens s old act outcome new × (outcome ≡ Refused Memory → TakesMemory act (happens s old act).0)

-- events have such outcomes, one after the other
abbrev pub AnswersEach : Setting → World → List Event → List Outcome → World → Type 0
AnswersEach s old [] [] new = new ≡ old
AnswersEach s old (event ∷ events) (outcome ∷ outcomes) new = (mid : World) × (Answers s old (act_of event) outcome mid × AnswersEach s mid events outcomes new)
AnswersEach s old [] (outcome ∷ outcomes) new = ⊥
AnswersEach s old (event ∷ events) [] new = ⊥
