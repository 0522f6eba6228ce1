-- When books are a run of the world, and when they are not.
use Rattle.std.specs.Prelude.{◌≡◌, ◌⊎◌, ℕ, ◌+◌, ◌≤◌, min, List, [], ◌∷◌, AllPairs}
use Rattle.cops_types.specs.Histories.{Sessions}
use Rattle.cops_core.specs.declared.event.Event.{Event}
use Rattle.cops_core.specs.World.{Setting, World, opening}
use Rattle.cops_node.specs.declared.entry.Entry.{Entry}
use Rattle.cops_tie.specs.Tie.{Placed, ticket, Continues, IsBelow, Follows, IsOrder, IsTiedTo}

-- the books are one run of the world up to some end
abbrev pub IsTied : Setting → List (List Entry) → Sessions → List Event → Type 0
IsTied s books sessions events = (end : World) × IsTiedTo s books sessions events end

-- the first entry that does not continue the run has this ticket: the ticket is not below all that follow, or the world has no such step
abbrev pub StopsAt : Setting → World → List Placed → ℕ → Type 0
StopsAt s w [] t = ⊥
StopsAt s w (p ∷ ps) t =
    ((t ≡ ticket p) × ((IsBelow p ps → ⊥) ⊎ ((mid : World) → Continues s w p mid → ⊥)))
    ⊎ ((mid : World) × (IsBelow p ps × (Continues s w p mid × StopsAt s mid ps t)))

-- one more than the greatest ticket, or 0 where there is no entry, capped at the greatest number of 64 bits
abbrev pub ticket_after : List Placed → ℕ
ticket_after [] = 0
ticket_after (p ∷ []) = min (ticket p + 1) 18446744073709551615
ticket_after (p ∷ q ∷ ps) = ticket_after (q ∷ ps)

-- `IsTiedTo` up to this end, and this ticket is one more than the greatest
abbrev pub IsTiedBefore : Setting → List (List Entry) → Sessions → List Event → World → ℕ → Type 0
IsTiedBefore s books sessions events end ticket = (tied : IsTiedTo s books sessions events end) × (ticket ≡ ticket_after tied.order)

-- The books are not such a run, at the least ticket whose entry does not continue it, or at one more than the greatest where only the sessions
-- differ.
pub record IsUntied (s : Setting) (books : List (List Entry)) (sessions : Sessions) (t : ℕ) : Type 0 where
  pub order : List Placed
  pub all : IsOrder s books order
  pub never_falls : AllPairs (λ p q. ticket p ≤ ticket q) order
  pub at : StopsAt s (opening s) order t ⊎ ((end : World) × (Follows s (opening s) order end × ((end.sessions ≡ sessions → ⊥) × (t ≡ ticket_after order))))
