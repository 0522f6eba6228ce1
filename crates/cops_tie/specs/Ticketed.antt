-- The representation of an entry in the code, and what the code returns.
use Rattle.std.specs.Prelude.{◌≡◌, ℕ}
use Rattle.cops_core.specs.World.{Setting, World}
use Rattle.cops_tie.specs.declared.order.Ticketed.{Ticketed}
use Rattle.cops_tie.specs.declared.fault.TieFault.{TieFault}
use Rattle.cops_tie.specs.declared.fault.TieFault.TheVariants.{Memory, Untied}
use Rattle.cops_tie.specs.Tie.{Placed, place_asked, IsFrom}

abbrev pub shown : Ticketed → Placed
shown t = record { dc = t.dc; place = t.place; entry = t.entry.now }

-- the ticket next to an entry is the entry's
abbrev pub HasItsTicket : Ticketed → Type 0
HasItsTicket t = t.ticket ≡ t.entry.now.ticket

-- the ticket of an `Untied` satisfies the predicate
abbrev pub WhereUntied : (ℕ → Type 0) → TieFault → Type 0
WhereUntied P Memory = Unit {0}
WhereUntied P (Untied t) = P t

-- the node that was asked is the one that the world asks, and the event's arguments are those that the world has
abbrev pub StandsRight : Setting → World → Placed → Type 0
StandsRight s w p = (place_asked s p.entry.event ≡ p.place) × IsFrom s w p.dc p.entry.event
