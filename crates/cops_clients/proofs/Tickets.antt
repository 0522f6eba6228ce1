-- One more than the greatest ticket.
use Rattle.std.proofs.Common.{◌≡◌, ℕ, ◌+◌, max, min, List, [], ◌∷◌, ◌++◌, refl}
use Rattle.std.specs.Global.{Vec}
use Rattle.cops_node.specs.declared.entry.Entry.{Entry}
use Rattle.cops_clients.specs.Live.{above_entries, ticket_above}

-- appending one entry
pub above_push : (ticket : ℕ) (es : List Entry) (e : Entry) → above_entries ticket (es ++ e ∷ []) ≡ max (above_entries ticket es) (min (e.ticket + 1) 18446744073709551615)
above_push ticket [] e = refl
above_push ticket (d ∷ es) e = above_push (max ticket (min (d.ticket + 1) 18446744073709551615)) es e

-- appending one book
pub books_push : (ticket : ℕ) (books : List (Vec Entry)) (book : Vec Entry) → ticket_above ticket (books ++ book ∷ []) ≡ above_entries (ticket_above ticket books) book.items
books_push ticket [] book = refl
books_push ticket (b ∷ books) book = books_push (above_entries ticket b.items) books book
