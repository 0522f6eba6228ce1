-- What a call adds to its caller's share.
use Rattle.std.specs.Prelude.{◌≡◌, ℕ, Bool, true, false, List, [], ◌∷◌, ◌++◌, ◌⊎◌}
use Rattle.cops_types.specs.declared.refusal.Refusal.{Refusal}
use Rattle.cops_types.specs.declared.refusal.Refusal.TheVariants.{ClockExhausted, NotHeld, NoSuchDep, DepsOpen}
use Rattle.cops_node.specs.Book.{entry}
use Rattle.cops_node.specs.declared.entry.Entry.{Entry}
use Rattle.cops_node.specs.declared.event.NodeEvent.{NodeEvent}
use Rattle.cops_node.specs.declared.outcome.Outcome.{Outcome}
use Rattle.cops_node.specs.declared.outcome.Outcome.TheVariants.{Refused}
use Rattle.cops_cluster.specs.declared.share.Made.{Made}

-- this is one of a node's own refusals
abbrev pub is_refusal_of_node : Refusal → Bool
is_refusal_of_node ClockExhausted = true
is_refusal_of_node NotHeld = true
is_refusal_of_node NoSuchDep = true
is_refusal_of_node DepsOpen = true
is_refusal_of_node _ = false

-- this is a node's own outcome, of which it makes an entry
abbrev pub is_of_node : Outcome → Bool
is_of_node (Refused refused) = is_refusal_of_node refused
is_of_node _ = true

abbrev pub made : ℕ → Entry → Made
made node e = record { entry = e; node = node }

-- one entry is added, with this node, event and outcome
abbrev pub AddsEntry : List Made → List Made → ℕ → NodeEvent → Outcome → Type 0
AddsEntry before after node event outcome =
    (ticket : ℕ) × (after ≡ before ++ made node (entry ticket event outcome) ∷ [])

-- what a call with this outcome adds: an entry where a node answered, and otherwise nothing
abbrev pub Adds : List Made → List Made → ℕ → NodeEvent → Outcome → Type 0
Adds before after node event outcome =
    (is_of_node outcome ≡ true → AddsEntry before after node event outcome) × (is_of_node outcome ≡ false → after ≡ before)

-- at most one entry is added, with this node and event
abbrev pub AddsAtMostOne : List Made → List Made → ℕ → NodeEvent → Type 0
AddsAtMostOne before after node event = (after ≡ before) ⊎ ((outcome : Outcome) × AddsEntry before after node event outcome)
