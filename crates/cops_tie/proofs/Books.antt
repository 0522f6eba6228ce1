-- Adding the entries of one book, and sorting entries.
use Rattle.std.proofs.Common.{◌≡◌, ℕ, ◌+◌, ◌/◌, ◌%◌, ◌<◌, ◌≤◌, List, [], ◌∷◌, ◌++◌, All, AllPairs, length, map, sym, ap, subst, ◌∙◌, arith}
use Rattle.std.proofs.lemmas.List.{append_assoc, append-nil, get_or-map, length-map}
use Rattle.std.proofs.lemmas.List.Elements.{All-get_or}
use Rattle.std.specs.List.Sorted.{IsNonDecreasingBy}
use Rattle.cops_node.specs.declared.entry.Entry.{Entry}
use Rattle.cops_tie.specs.declared.order.Ticketed.{Ticketed}
use Rattle.cops_tie.specs.Tie.{Placed, ticket, placed}
use Rattle.cops_tie.specs.Ticketed.{HasItsTicket, shown}

-- the entries of the nth node's book
abbrev pub at_node : ℕ → ℕ → List Entry → List Placed
at_node nodes n book = map (λ (e : Entry). let p : Placed = record { dc = n / nodes; place = n % nodes; entry = e } in p) book

pub placed_more : (nodes k : ℕ) (books : List (List Entry)) (book : List Entry) → placed nodes k (books ++ book ∷ []) ≡ placed nodes k books ++ at_node nodes (k + length books) book
placed_more nodes k [] book = append-nil (at_node nodes k book) ∙ ap (λ n. at_node nodes n book) (let e : k ≡ k + 0 = omega arith in e)
placed_more nodes k (b ∷ books) book =
    ap (λ (l : List Placed). at_node nodes k b ++ l) (placed_more nodes (k + 1) books book)
    ∙ sym (append_assoc (at_node nodes k b) (placed nodes (k + 1) books) (at_node nodes (k + 1 + length books) book))
    ∙ ap (λ n. (at_node nodes k b ++ placed nodes (k + 1) books) ++ at_node nodes n book) (let e : k + 1 + length books ≡ k + length (b ∷ books) = omega arith in e)

-- sorted by the copied tickets is sorted by the entries' own
by_entries : (order : List Ticketed) → All HasItsTicket order → IsNonDecreasingBy (λ (t : Ticketed). t.ticket) order → IsNonDecreasingBy (λ (t : Ticketed). t.entry.now.ticket) order
by_entries order all h i j x less inside =
    omega (arith, h i j x less inside, All-get_or HasItsTicket order i x (omega (arith, less, inside)) all, All-get_or HasItsTicket order j x inside all)

entries_rise : (order : List Ticketed) → IsNonDecreasingBy (λ (t : Ticketed). t.entry.now.ticket) order → AllPairs (λ p q. ticket p ≤ ticket q) (map shown order)
entries_rise [] h i j d less inside = absurd (omega (arith, inside, less))
entries_rise (x ∷ order) h i j d less inside =
    let within : j < length (x ∷ order) = subst (λ n. j < n) (length-map (x ∷ order) shown) inside in
    omega (arith, h i j x (omega (arith, less)) within, ap ticket (get_or-map shown (x ∷ order) i x d (omega (arith, less, within))), ap ticket (get_or-map shown (x ∷ order) j x d within))

pub never_falls : (order : List Ticketed) → All HasItsTicket order → IsNonDecreasingBy (λ (t : Ticketed). t.ticket) order → AllPairs (λ p q. ticket p ≤ ticket q) (map shown order)
never_falls order all h = entries_rise order (by_entries order all h)
