use Rattle.std.proofs.Common.{◌≡◌, All, map, take, Vec, Global}
use Rattle.cops_node.specs.declared.entry.Entry.{Entry}
use Rattle.cops_tie.specs.Tie.{placed}
use Rattle.cops_tie.specs.Ticketed.{HasItsTicket, shown}
use Rattle.cops_tie.proofs.order.in_order.Given as goal

abbrev pub invariant-loop-n : goal.invariant-loop-n
invariant-loop-n l = (map shown l.order.items ≡ placed l.fn.nodes 0 (map (λ (b : Vec Entry Global). b.items) (take l.n l.books))) × All HasItsTicket l.order.items
