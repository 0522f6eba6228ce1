use Rattle.std.proofs.Common.{◌≡◌, ◌+◌, ◌∙◌, ◌++◌, ◌∷◌, [], List, Vec, Global, length, map, take, rules, sym, ap, ap₂, subst, arith}
use Rattle.std.specs.List.Sorted.{IsPermutation}
use Rattle.std.proofs.lemmas.List.{take_all, take_more, map-append, length-map, length-take}
use Rattle.std.proofs.lemmas.List.Sorted.{All-permutation, IsPermutation-map, IsNonDecreasingBy-from_sort_by_key}
use Rattle.cops_node.specs.declared.entry.Entry.{Entry}
use Rattle.cops_tie.specs.declared.order.Ticketed.{Ticketed}
use Rattle.cops_tie.specs.Tie.{Placed, placed}
use Rattle.cops_tie.specs.Ticketed.{HasItsTicket, shown}
use Rattle.cops_tie.proofs.Books.{at_node, never_falls, placed_more}
use Rattle.cops_tie.proofs.order.in_order.Goals as goal

abbrev items_of : Vec Entry Global → List Entry
items_of b = b.items

pub loop-n-preserved : goal.loop-n-preserved
loop-n-preserved c =
    let n = c.loop-n.n in
    let books = c.args.books.now in
    let b = c.index-books-n.result in
    let before = map items_of (take n books) in
    let more : map items_of (take (n + 1) books) ≡ before ++ b.items ∷ [] =
    ap (map items_of) (take_more books n b c.loop-n-test.true ∙ ap (λ (x : Vec Entry Global). take n books ++ x ∷ []) (sym c.index-books-n.is)) ∙ map-append items_of (take n books) (b ∷ []) in
    let place : 0 + length before ≡ n = omega (arith, length-map {A = Vec Entry Global} {B = List Entry}, length-take {A = Vec Entry Global}, c.loop-n-test.true) in
    let all : placed c.args.nodes 0 (map items_of (take (n + 1) books)) ≡ placed c.args.nodes 0 before ++ at_node c.args.nodes n b.items =
    ap (placed c.args.nodes 0) more ∙ placed_more c.args.nodes 0 before b.items ∙ ap (λ m. placed c.args.nodes 0 before ++ at_node c.args.nodes m b.items) place in
    let entries = c.in_ok-add_book.ensures.entries ∙ ap₂ (λ (l : List Placed) (k : List Entry). l ++ at_node c.args.nodes n k) c.loop-n.invariant.0 c.deref.ensures.value ∙ sym all in
    (entries, c.in_ok-add_book.ensures.tickets c.loop-n.invariant.1)

pub returns-clause-all : goal.returns-clause-all
returns-clause-all c =
    let books = c.args.books.now in
    let all : take c.loop-n.n books ≡ books = take_all c.loop-n.n books (omega (arith, c.loop-n-test.false)) in
    let entries = c.loop-n.invariant.0 ∙ ap (λ (bs : List (Vec Entry Global)). placed c.args.nodes 0 (map items_of bs)) all in
    subst (λ (l : List Placed). IsPermutation l (map shown c.sort_by_key.new.self.items)) entries (IsPermutation-map shown _ _ c.sort_by_key.ensures.permutation)

pub returns-clause-never_falls : goal.returns-clause-never_falls
returns-clause-never_falls c =
    let sorted = c.sort_by_key.new.self.items in
    never_falls sorted (All-permutation HasItsTicket _ _ c.sort_by_key.ensures.permutation c.loop-n.invariant.1)
    (IsNonDecreasingBy-from_sort_by_key (λ (t : Ticketed). t.ticket) sorted c.in_ok-sort_by_key.ensures.sorted (λ a r q k. search rules))
