use Rattle.std.proofs.Common.{◌≡◌, ℕ, [], ◌∷◌, length, ◌∙◌, ap, subst, arith, length-append}
use Rattle.cops_cluster.specs.Close.{IsReplay, entries_at, number_of}
use Rattle.cops_cluster.proofs.Lists.{lists_more, replays_more}
use Rattle.cops_cluster.proofs.closing.listed.Goals as goal

pub loop-book-preserved : goal.loop-book-preserved
loop-book-preserved c =
    let now = c.push_reserved.ensures.items in
    let n : c.len-n.result ≡ length c.loop-book.lists.items = omega (arith, c.len-n.ensures, c.loop-book.lists.ok.0) in
    let P : ℕ → Type 0 = λ k. IsReplay (number_of c.args.places k) c.list_at.result.items in
    record {
      len = omega (arith, length-append c.loop-book.yielded (c.in-Some.book ∷ []));
      room = omega (arith, c.push_reserved.ensures.capacity);
      replays = replays_more c.args.places c.loop-book.lists.items _ c.list_at.result now (subst P n c.list_at.ensures.replays) c.loop-book.invariant.replays;
      made = lists_more c.args.places c.loop-book.lists.items _ c.list_at.result c.loop-book.yielded c.in-Some.book now (omega (arith, c.loop-book.lists.ok.0)) (c.list_at.ensures.entries ∙ ap (λ k. entries_at c.args.places k c.in-Some.book) n) c.loop-book.invariant.made;
    }
