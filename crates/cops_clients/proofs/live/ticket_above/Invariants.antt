use Rattle.std.proofs.Common.{◌≡◌, take}
use Rattle.cops_clients.specs.Live.{ticket_above}
use Rattle.cops_clients.proofs.live.ticket_above.Given as goal

abbrev pub invariant-loop-book : goal.invariant-loop-book
invariant-loop-book l = l.above ≡ ticket_above 0 (take l.book-index l.books)
