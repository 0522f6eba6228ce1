use Rattle.std.proofs.Common.{◌≡◌, ◌≤◌, ◌<◌, ◌∙◌, ℕ, List, ap, arith, get_or, sym, subst}
use Rattle.std.proofs.lemmas.List.{get_or_default}
use Rattle.std.specs.List.Sorted.{IsNonDecreasingBy}
use Rattle.cops_cluster.specs.declared.logged.LoggedEntry.{LoggedEntry}
use Rattle.cops_cluster.specs.Differing.{shown, ticket_of}
use Rattle.cops_cluster.proofs.Differences.{still_sorted}
use Rattle.cops_cluster.proofs.Joins.{missing_from}
use Rattle.cops_cluster.proofs.differing.bring.Goals as goal

pub returns-then-heard-j-clause-missing : goal.returns-then-heard-j-clause-missing
returns-then-heard-j-clause-missing c = λ _ stands.
    let h = c.args.heard.now in
    let n = c.args.logged.now in
    let r = c.index-heard-j.result in
    let same = c.loop-j.invariant.same in
    let at : get_or c.loop-j.heard c.loop-j.j r ≡ get_or h c.loop-j.j n = get_or_default c.loop-j.heard c.loop-j.j r n (omega arith) ∙ ap (λ (l : List LoggedEntry). get_or l c.loop-j.j n) same in
    let ne : ticket_of (get_or h c.loop-j.j n) ≡ ticket_of n → ⊥ = λ e. c.if-heard-j.true ((get_or c.loop-j.heard c.loop-j.j r).same ∙ (ap ticket_of at ∙ (e ∙ sym n.same))) in
    let first : ticket_of n ≤ ticket_of (get_or h c.args.i n) = c.requires.behind n in
    let here : ticket_of (get_or h c.args.i n) ≤ ticket_of (get_or h c.loop-j.j n) = c.requires.sorted c.args.i c.loop-j.j n (omega arith) (omega arith) in
    missing_from h c.args.i c.loop-j.j n
    (subst (λ (l : List LoggedEntry). (k : ℕ) → c.args.i ≤ k → k < c.loop-j.j → shown (get_or l k n) ≡ shown n → ⊥) same c.loop-j.invariant.passed)
    (λ k le inside. let later = c.requires.sorted c.loop-j.j k n le inside in omega (arith, later, here, first, ne)) stands

pub returns-then-is-clause-sorted : goal.returns-then-is-clause-sorted
returns-then-is-clause-sorted c =
    let h = c.loop-j.heard in
    let n = c.args.logged.now in
    let r = c.index-heard-j.result in
    let sorted = subst (λ (l : List LoggedEntry). IsNonDecreasingBy ticket_of l) (sym c.loop-j.invariant.same) c.requires.sorted in
    let first = subst (λ (l : List LoggedEntry). (d : LoggedEntry) → ticket_of n ≤ ticket_of (get_or l c.args.i d)) (sym c.loop-j.invariant.same) c.requires.behind in
    let there : ticket_of (get_or h c.loop-j.j r) ≡ ticket_of n = sym (get_or h c.loop-j.j r).same ∙ (c.if-heard-j.false ∙ n.same) in
    let alike : (d : LoggedEntry) → ticket_of (get_or h c.args.i d) ≡ ticket_of (get_or h c.loop-j.j d) =
    λ d. omega (arith, first d, sorted c.args.i c.loop-j.j d (omega arith) (omega arith), there, ap ticket_of (get_or_default h c.loop-j.j r d (omega arith))) in
    still_sorted ticket_of h c.swap.new.self c.args.i c.loop-j.j c.swap.ensures.by_index c.swap.ensures.len alike sorted

pub returns-then-is-clause-found : goal.returns-then-is-clause-found
returns-then-is-clause-found c = λ _.
    let x = c.index-heard-j-in-loop-j.result in
    (x, (c.swap.ensures.by_index.0 x ∙ sym c.index-heard-j-in-loop-j.is, ap shown c.index-heard-j-in-loop-j.is ∙ c.is.ensures.0 c.if-is.true))

pub returns-clause-missing : goal.returns-clause-missing
returns-clause-missing c = λ _ stands.
    let h = c.args.heard.now in
    let n = c.args.logged.now in
    missing_from h c.args.i c.loop-j.j n
    (subst (λ (l : List LoggedEntry). (k : ℕ) → c.args.i ≤ k → k < c.loop-j.j → shown (get_or l k n) ≡ shown n → ⊥) c.loop-j.invariant.same c.loop-j.invariant.passed)
    (λ k le inside. absurd (omega (arith, c.loop-j-test.false))) stands
