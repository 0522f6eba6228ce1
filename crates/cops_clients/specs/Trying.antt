-- Trying an operation again after memory ran out.
use Rattle.std.specs.Prelude.{◌≡◌, ℕ, ◌+◌, ◌≤◌, Option, None, Some}
use Rattle.cops_types.specs.declared.refusal.Refusal.{Refusal}
use Rattle.cops_types.specs.declared.refusal.Refusal.TheVariants.{Memory}
use Rattle.cops_node.specs.declared.outcome.Outcome.{Outcome}
use Rattle.cops_node.specs.declared.outcome.Outcome.TheVariants.{Refused}
use Rattle.cops_clients.specs.declared.tries.Tries.{Tries}

-- the refusal of an outcome, if it is one
abbrev pub refusal_in : Outcome → Option Refusal
refusal_in (Refused refused) = Some refused
refusal_in _ = None

-- one more try, with its refusal if there was one
abbrev pub IsTry : Tries → Option Refusal → Tries → Type 0
IsTry old refused new =
    (new.made ≡ old.made + 1)
    × (new.last ≡ refused)
    × (refused ≡ Some Memory → new.wanting ≡ old.wanting + 1)
    × ((refused ≡ Some Memory → ⊥) → new.wanting ≡ old.wanting)

-- All tries of an operation, which is tried at most `more` times again: memory ran out in each of them but the last, so it was tried again for no
-- other reason; and where memory ran out in the last too, there had been `more` retries.
abbrev pub AreAllTries : ℕ → Tries → Type 0
AreAllTries more t =
    (t.made ≤ more + 1)
    × (t.last ≡ Some Memory → (t.made ≡ more + 1) × (t.wanting ≡ t.made))
    × ((t.last ≡ Some Memory → ⊥) → t.made ≡ t.wanting + 1)
