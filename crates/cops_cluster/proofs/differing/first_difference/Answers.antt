use Rattle.std.proofs.Common.{◌≡◌, ◌<◌, ◌≤◌, ◌∙◌, ℕ, List, ap, arith, get_or, length, length-drop, map, subst, take}
use Rattle.std.proofs.lemmas.List.{get_or_default, length-map}
use Rattle.std.proofs.lemmas.List.Sorted.{IsPermutation-trans}
use Rattle.cops_cluster.specs.declared.logged.LoggedEntry.{LoggedEntry}
use Rattle.cops_cluster.specs.Differing.{shown, ticket_of}
use Rattle.cops_cluster.proofs.Joins.{least_heard, least_kept, same_all, same_more}
use Rattle.cops_cluster.proofs.differing.first_difference.Goals as goal

same_at : (i j : ℕ) (news kept : List LoggedEntry) → i ≡ j → take i (map shown news) ≡ take i (map shown kept) → take j (map shown news) ≡ take j (map shown kept)
same_at i j news kept e = subst (λ k. take k (map shown news) ≡ take k (map shown kept)) e

pub returns-then-ticket-logged : goal.returns-then-ticket-logged
returns-then-ticket-logged c =
    let n = get_or c.loop-i.heard c.loop-i.i c.index-heard-i.result in
    let k = c.index-kept-i.result in
    let len = c.loop-i.invariant.len in
    let there : n ≡ get_or c.loop-i.heard c.loop-i.i n = get_or_default c.loop-i.heard c.loop-i.i c.index-heard-i.result n (omega (arith, len)) in
    let above : c.loop-i.i < length c.args.kept.now → ticket_of n < ticket_of (get_or c.args.kept.now c.loop-i.i n) = λ inside.
    omega (arith, c.if-ticket-logged.true, n.same, k.same, ap ticket_of (c.index-kept-i.is ∙ get_or_default c.args.kept.now c.loop-i.i k n inside)) in
    least_heard c.args.kept.now c.args.heard.now c.loop-i.heard c.loop-i.i n.ticket n c.requires.kept c.loop-i.invariant.sorted c.loop-i.invariant.order c.loop-i.invariant.same n.same
    (omega (arith, len)) there above

pub returns-then-not-bring : goal.returns-then-not-bring
returns-then-not-bring c =
    let n = c.index-kept-i.result in
    let r = c.index-heard-i.result in
    let least : c.loop-i.i < length c.loop-i.heard → ticket_of n ≤ ticket_of (get_or c.loop-i.heard c.loop-i.i n) = λ inside.
    omega (arith, c.if-ticket-logged.false, n.same, (get_or c.loop-i.heard c.loop-i.i r).same, ap ticket_of (get_or_default c.loop-i.heard c.loop-i.i r n inside)) in
    least_kept c.args.kept.now c.args.heard.now c.loop-i.heard c.loop-i.i n.ticket n c.requires.kept c.loop-i.invariant.sorted c.loop-i.invariant.order c.loop-i.invariant.same n.same
    (omega arith) c.index-kept-i.is least (c.bring.ensures.missing (search c.if-not-bring.true))

pub returns-then-both-kept : goal.returns-then-both-kept
returns-then-both-kept c =
    let n = get_or c.args.kept.now c.min-both.result c.index-kept-both.result in
    let there : n ≡ get_or c.args.kept.now c.min-both.result n = get_or_default c.args.kept.now c.min-both.result c.index-kept-both.result n c.if-both-kept.true in
    let ends : length c.loop-i.heard ≤ c.min-both.result = omega (arith, c.min-both.ensures, c.if-both-kept.true, c.loop-i.invariant.len) in
    least_kept c.args.kept.now c.args.heard.now c.loop-i.heard c.min-both.result n.ticket n c.requires.kept c.loop-i.invariant.sorted c.loop-i.invariant.order
    (same_at c.loop-i.i c.min-both.result c.loop-i.heard c.args.kept.now (omega arith) c.loop-i.invariant.same) n.same
    c.if-both-kept.true there (λ inside. absurd (omega (arith, inside, ends)))
    (λ stands. absurd (omega (arith, stands.1, length-drop c.min-both.result (map shown c.loop-i.heard), length-map c.loop-i.heard shown, ends)))

pub returns-then-both-heard : goal.returns-then-both-heard
returns-then-both-heard c =
    let n = get_or c.loop-i.heard c.min-both.result c.index-heard-both.result in
    let there : n ≡ get_or c.loop-i.heard c.min-both.result n = get_or_default c.loop-i.heard c.min-both.result c.index-heard-both.result n c.if-both-heard.true in
    least_heard c.args.kept.now c.args.heard.now c.loop-i.heard c.min-both.result n.ticket n c.requires.kept c.loop-i.invariant.sorted c.loop-i.invariant.order
    (same_at c.loop-i.i c.min-both.result c.loop-i.heard c.args.kept.now (omega arith) c.loop-i.invariant.same) n.same
    c.if-both-heard.true there (λ inside. absurd (omega (arith, inside, c.if-both-kept.false)))

pub returns : goal.returns
returns c =
    let all : length c.loop-i.heard ≤ c.loop-i.i = omega (arith, c.loop-i-test.false, c.min-both.ensures, c.if-both-heard.false, c.loop-i.invariant.len) in
    same_all c.loop-i.heard c.args.heard.now c.args.kept.now c.loop-i.i c.loop-i.invariant.order c.loop-i.invariant.same all (omega (arith, c.loop-i-test.false, c.if-both-kept.false))

pub loop-i-preserved : goal.loop-i-preserved
loop-i-preserved c =
    let found = c.bring.ensures.found (search c.if-not-bring.false) in
    let len : length c.bring.new.heard ≡ length c.args.heard.now = c.bring.ensures.len ∙ c.loop-i.invariant.len in
    record {
      len = len;
      order = IsPermutation-trans _ _ _ c.loop-i.invariant.order c.bring.ensures.order;
      sorted = c.bring.ensures.sorted;
      same = same_more c.bring.new.heard c.loop-i.heard c.args.kept.now c.loop-i.i found.0 c.index-kept-i.result
          (omega (arith, c.loop-i-test.true, c.min-both.ensures, len)) (omega (arith, c.loop-i-test.true, c.min-both.ensures))
          c.bring.ensures.before c.loop-i.invariant.same found.1.0 found.1.1 c.index-kept-i.is;
    }
