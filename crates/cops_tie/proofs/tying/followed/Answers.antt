use Rattle.std.proofs.Common.{rules, ◌≡◌, ◌+◌, ◌∙◌, ◌++◌, ◌∷◌, [], inl, inr, List, Option, map, take, drop, refl, sym, ap, ap₂, subst}
use Rattle.std.specs.Option.{IfNone, IfSome}
use Rattle.std.proofs.lemmas.List.{map-append}
use Rattle.cops_core.specs.declared.event.Event.{Event}
use Rattle.cops_core.specs.World.{World}
use Rattle.cops_tie.specs.Tie.{Placed, event_of, IsBelow, Continues, Follows}
use Rattle.cops_tie.specs.Untied.{StopsAt}
use Rattle.cops_tie.specs.Ticketed.{shown}
use Rattle.cops_tie.proofs.Walking.{at_entry, take_entry}
use Rattle.cops_tie.proofs.tying.followed.Goals as goal

pub returns-then-comes_again-clause-stops : goal.returns-then-comes_again-clause-stops
returns-then-comes_again-clause-stops c =
    let s = c.args.setting.now in
    let w = c.loop-i.world.world in
    let t = c.index-order-i.result in
    let ps = map shown c.args.order.now in
    let at = at_entry c.args.order.now c.loop-i.i t c.loop-i-test.true c.index-order-i.is in
    let again = c.comes_again.ensures.again c.if-comes_again.true (shown t) (drop (c.loop-i.i + 1) ps) at in
    c.loop-i.invariant.stops t.entry.now.ticket (subst (λ (l : List Placed). StopsAt s w l t.entry.now.ticket) (sym at) (inl (refl, inl again)))

pub returns-in-None-clause-stops : goal.returns-in-None-clause-stops
returns-in-None-clause-stops c =
    let s = c.args.setting.now in
    let w = c.loop-i.world.world in
    let t = c.index-order-i.result in
    let at = at_entry c.args.order.now c.loop-i.i t c.loop-i-test.true c.index-order-i.is in
    let none = subst (λ (o : Option Event). IfNone o ((mid : World) → Continues s w (shown t) mid → ⊥)) c.in-None.is c.in_ok-event.ensures.none in
    c.loop-i.invariant.stops t.entry.now.ticket (subst (λ (l : List Placed). StopsAt s w l t.entry.now.ticket) (sym at) (inl (refl, inr none)))

pub loop-i-preserved : goal.loop-i-preserved
loop-i-preserved c =
    let s = c.args.setting.now in
    let w = c.loop-i.world.world in
    let next = c.continued.new.world.world in
    let t = c.index-order-i.result in
    let ps = map shown c.args.order.now in
    let rest = drop (c.loop-i.i + 1) ps in
    let at = at_entry c.args.order.now c.loop-i.i t c.loop-i-test.true c.index-order-i.is in
    let below : IsBelow (shown t) rest = c.comes_again.ensures.below (search rules) c.requires.never_falls (shown t) rest at in
    let some = subst (λ (o : Option Event). IfSome o (λ event. (event ≡ event_of (shown t)) × Continues s w (shown t) next)) c.in-Some.is c.in_ok-event.ensures.some in
    record {
      setting = c.in_ok-event.ensures.setting ∙ c.loop-i.invariant.setting;
      events = c.in_ok-push-in-Some.ensures.items ∙ ap₂ (λ (es : List Event) (e : Event). es ++ e ∷ []) c.loop-i.invariant.events some.0
          ∙ sym (ap (map event_of) (take_entry c.args.order.now c.loop-i.i t c.loop-i-test.true c.index-order-i.is) ∙ map-append event_of (take c.loop-i.i ps) (shown t ∷ []));
      onward = λ end f. c.loop-i.invariant.onward end (subst (λ (l : List Placed). Follows s w l end) (sym at) (below, (next, (some.1, f))));
      stops = λ k f. c.loop-i.invariant.stops k (subst (λ (l : List Placed). StopsAt s w l k) (sym at) (inr (next, (below, (some.1, f)))));
    }
