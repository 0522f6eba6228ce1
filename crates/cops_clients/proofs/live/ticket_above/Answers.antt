use Rattle.std.proofs.Common.{◌≡◌, ℕ, ◌+◌, [], ◌∷◌, ◌++◌, take, ap, sym, ◌∙◌, arith}
use Rattle.std.proofs.lemmas.List.{take_more}
use Rattle.cops_clients.specs.Live.{above_entries, ticket_above}
use Rattle.cops_clients.proofs.Tickets.{books_push}
use Rattle.cops_clients.proofs.live.ticket_above.Goals as goal

pub loop-book-preserved : goal.loop-book-preserved
loop-book-preserved c =
    let books = c.args.books.now in
    let at = c.loop-book.book-index in
    let x = c.book-item.result in
    let more : take (at + 1) books ≡ take at books ++ x ∷ [] =
    take_more books at x (omega (arith, c.loop-book-test.true, c.loop-book.auto.book-index-end)) ∙ ap (λ b. take at books ++ b ∷ []) (sym c.book-item.is) in
    c.above_entries-above.ensures ∙ ap (above_entries c.loop-book.above) c.deref.ensures.value ∙ ap (λ (n : ℕ). above_entries n x.items) c.loop-book.invariant
    ∙ sym (ap (ticket_above 0) more ∙ books_push 0 (take at books) x)
