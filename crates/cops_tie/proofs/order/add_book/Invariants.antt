use Rattle.std.proofs.Common.{◌≡◌, ◌++◌, All, map, take}
use Rattle.cops_node.specs.declared.entry.Entry.{Entry}
use Rattle.cops_tie.specs.Tie.{Placed}
use Rattle.cops_tie.specs.Ticketed.{HasItsTicket, shown}
use Rattle.cops_tie.proofs.order.add_book.Given as goal

abbrev pub invariant-loop-entry : goal.invariant-loop-entry
invariant-loop-entry l =
    (map shown l.entries.items ≡ map shown l.fn.entries.items ++ map (λ (e : Entry). let p : Placed = record { dc = l.fn.dc; place = l.fn.place; entry = e } in p) (take l.entry-index l.book))
    × (All HasItsTicket l.fn.entries.items → All HasItsTicket l.entries.items)
