use Rattle.std.proofs.Common.{◌≡◌, ◌<◌, ◌+◌, ◌-◌, ◌∙◌, ℕ, drop, length, take, ap, sym, subst, arith}
use Rattle.cops_audit.specs.Names.{names_from, names_of}
use Rattle.cops_audit.proofs.Naming.{names_at, names_past}
use Rattle.cops_audit.proofs.names.Names.range.Goals as goal

pub returns-then-index-count : goal.returns-then-index-count
returns-then-index-count c =
    let h = c.args.history.now.sessions in
    let start = c.args.start in
    let inside : c.loop-client.client < length h = omega (arith, c.loop-client-test.true, c.clients-client-end.ensures.count) in
    let here = c.loop-client.invariant ∙ names_at h c.loop-client.client c.loop-client.index inside (omega (arith, c.if-index-count.true, c.session_len-count.ensures.count)) in
    ap (take c.args.len) (sym here) ∙ ap (λ (n : ℕ). take n (drop start (names_of h))) (let e : c.args.len ≡ start + c.args.len - start = omega arith in e)

pub loop-client-preserved : goal.loop-client-preserved
loop-client-preserved c =
    let h = c.args.history.now.sessions in
    let inside : c.loop-client.client < length h = omega (arith, c.loop-client-test.true, c.clients-client-end.ensures.count) in
    subst (λ (n : ℕ). drop c.args.start (names_of h) ≡ drop (c.loop-client.index - n) (names_from (c.loop-client.client + 1) (drop (c.loop-client.client + 1) h))) (sym c.session_len-count.ensures.count)
    (c.loop-client.invariant ∙ names_past h c.loop-client.client c.loop-client.index inside (omega (arith, c.if-index-count.false, c.session_len-count.ensures.count)))
