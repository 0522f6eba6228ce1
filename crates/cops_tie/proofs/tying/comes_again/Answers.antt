use Rattle.std.proofs.Common.{◌+◌, ◌∙◌, map, sym, ap, arith}
use Rattle.std.proofs.Common.{eqb-true, eq-eqb}
use Rattle.std.proofs.lemmas.List.{get_or-map, length-map}
use Rattle.cops_tie.specs.declared.order.Ticketed.{Ticketed}
use Rattle.cops_tie.specs.Tie.{Placed, ticket}
use Rattle.cops_tie.specs.Ticketed.{shown}
use Rattle.cops_tie.proofs.Walking.{none_after, again_not_below, next_is_below}
use Rattle.cops_tie.proofs.tying.comes_again.Goals as goal

pub returns-then-i-order-clause-below : goal.returns-then-i-order-clause-below
returns-then-i-order-clause-below c = λ no falls p rest e.
    none_after (map shown c.args.order.now) c.args.i p rest e (omega (arith, length-map {A = Ticketed} {B = Placed}, c.if-i-order.true))

pub returns-clause-again : goal.returns-clause-again
returns-clause-again c = λ yes p rest e below.
    let order = c.args.order.now in
    let next = ap ticket (get_or-map shown order (c.args.i + 1) c.index-order-i.result p c.if-i-order.false) in
    let this = ap ticket (get_or-map shown order c.args.i c.index-order-i-2.result p c.requires.inside) in
    again_not_below (map shown order) c.args.i p rest p e (omega (arith, length-map {A = Ticketed} {B = Placed}, c.if-i-order.false)) (next ∙ eqb-true _ _ yes ∙ sym this) below

pub returns-clause-below : goal.returns-clause-below
returns-clause-below c = λ no falls p rest e.
    let order = c.args.order.now in
    next_is_below (map shown order) c.args.i p rest e (omega (arith, length-map {A = Ticketed} {B = Placed}, c.if-i-order.false)) falls
    (λ d same. no (eq-eqb _ _ (sym (ap ticket (get_or-map shown order (c.args.i + 1) c.index-order-i.result d c.if-i-order.false)) ∙ same ∙ ap ticket (get_or-map shown order c.args.i c.index-order-i-2.result d c.requires.inside))))
