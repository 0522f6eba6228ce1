use Rattle.std.proofs.Common.{◌≡◌, ◌+◌, ◌∙◌, List, length, map, sym, ap, subst, inr, true≢false}
use Rattle.std.specs.List.Sorted.{IsPermutation}
use Rattle.cops_types.specs.Histories.{Sessions}
use Rattle.cops_types.specs.Verdicts.{HasAcceptedVerdict}
use Rattle.cops_core.specs.World.{opening}
use Rattle.cops_trace.specs.Text.{sessions_of}
use Rattle.cops_tie.specs.declared.order.Ticketed.{Ticketed}
use Rattle.cops_tie.specs.Tie.{Follows, IsOrder, event_of, placed}
use Rattle.cops_tie.specs.Untied.{ticket_after}
use Rattle.cops_tie.specs.Ticketed.{shown}
use Rattle.cops_tie.proofs.Ordering.{NeverFalls}
use Rattle.cops_tie.proofs.tying.tied_run.Goals as goal

pub run_of-requires : goal.run_of-requires
run_of-requires c = subst (λ (ts : List Ticketed). NeverFalls (map shown ts)) (sym c.deref.ensures.value) c.in_ok-order.ensures.never_falls

pub returns-then-is_same-clause-tied : goal.returns-then-is_same-clause-tied
returns-then-is_same-clause-tied c =
    let s = c.args.setting.now in
    let run = c.in_ok-run.run' in
    let turns = c.deref.ensures.value in
    let order = map shown c.in_ok-order.order.items in
    let follows : Follows s (opening s) order run.world.world =
    subst (λ (ts : List Ticketed). Follows s (opening s) (map shown ts) run.world.world) turns c.in_ok-run.ensures.follows in
    let saw : run.world.world.sessions ≡ sessions_of c.args.trace.now = sym c.history.ensures.sessions ∙ c.is_same.ensures.0 c.if-is_same.true ∙ c.history-2.ensures.sessions in
    let events : run.events.items ≡ map event_of order = c.in_ok-run.ensures.events ∙ ap (λ (ts : List Ticketed). map event_of (map shown ts)) turns in
    let nodes : c.nodes.result ≡ length c.args.setting.now.place.splits + 1 = c.nodes.ensures.count in
    let all : IsOrder s (map (λ b. b.items) c.args.books.now) order = subst (λ n. IsPermutation (placed n 0 (map (λ b. b.items) c.args.books.now)) order) nodes c.in_ok-order.ensures.all in
    let next : run.next ≡ ticket_after order = c.in_ok-run.ensures.next ∙ ap (λ (ts : List Ticketed). ticket_after (map shown ts)) turns in
    (record { order = order; all = all; follows = follows; saw = saw; events_are = events }, next)

pub returns-then-is_same-clause-accepted : goal.returns-then-is_same-clause-accepted
returns-then-is_same-clause-accepted c =
    let saw : c.history.result.now.sessions ≡ sessions_of c.args.trace.now = c.is_same.ensures.0 c.if-is_same.true ∙ c.history-2.ensures.sessions in
    subst (λ (h : Sessions). HasAcceptedVerdict h) saw c.history.ensures.accepted

pub returns-clause-untied : goal.returns-clause-untied
returns-clause-untied c =
    let s = c.args.setting.now in
    let run = c.in_ok-run.run' in
    let turns = c.deref.ensures.value in
    let order = map shown c.in_ok-order.order.items in
    let follows : Follows s (opening s) order run.world.world =
    subst (λ (ts : List Ticketed). Follows s (opening s) (map shown ts) run.world.world) turns c.in_ok-run.ensures.follows in
    let differ : run.world.world.sessions ≡ sessions_of c.args.trace.now → ⊥ = λ same.
    absurd (true≢false (sym (c.is_same.ensures.1 (c.history.ensures.sessions ∙ same ∙ sym c.history-2.ensures.sessions)) ∙ c.if-is_same.false)) in
    let nodes : c.nodes.result ≡ length c.args.setting.now.place.splits + 1 = c.nodes.ensures.count in
    let all : IsOrder s (map (λ b. b.items) c.args.books.now) order = subst (λ n. IsPermutation (placed n 0 (map (λ b. b.items) c.args.books.now)) order) nodes c.in_ok-order.ensures.all in
    let next : run.next ≡ ticket_after order = c.in_ok-run.ensures.next ∙ ap (λ (ts : List Ticketed). ticket_after (map shown ts)) turns in
    record { order = order; all = all; never_falls = c.in_ok-order.ensures.never_falls; at = inr (run.world.world, (follows, (differ, next))) }
