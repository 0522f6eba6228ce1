use Rattle.std.proofs.Common.{◌≡◌, sym, ap, ◌∙◌}
use Rattle.std.specs.Map.{values_of, set_value}
use Rattle.cops_held.specs.Taking.{marking}
use Rattle.cops_held.proofs.Tables.{at_key, found, set_mark, set_same, set_table, same_version, on_ok, on_err}
use Rattle.cops_held.proofs.held.Held.mark.Goals as goal

pub returns-in_default-clause-answer : goal.returns-in_default-clause-answer
returns-in_default-clause-answer c =
    rw (← c.self.view_is) (ap (λ o. marking o c.args.dep) (c.in_default.ensures.value ∙ found c.self.inside.puts.entries c.args.version c.self.invariant))

pub invariant_of-self-2 : goal.invariant_of-self-2
invariant_of-self-2 c =
    let follows = c.get_mut.follows.holds c.mark.new.self in
    rw follows.0
    (set_table c.self.inside.puts.entries c.args.version c.in-Some.held.now c.mark.new.self c.self.invariant c.in-Some.ensures.value
    (same_version c.mark.result c.args.dep c.in-Some.held.now c.mark.new.self c.mark.ensures.ok c.mark.ensures.err))

pub returns-clause-answer : goal.returns-clause-answer
returns-clause-answer c =
    rw (← c.self.view_is)
    (c.mark.ensures.answer ∙ ap (λ o. marking o c.args.dep) (c.in-Some.ensures.value ∙ found c.self.inside.puts.entries c.args.version c.self.invariant))

pub returns-clause-ok : goal.returns-clause-ok
returns-clause-ok c =
    let follows = c.get_mut.follows.holds c.mark.new.self in
    let es = c.self.inside.puts.entries in
    rw (← c.self.view_is)
    (on_ok c.mark.result c.mark.ensures.ok
    (λ is. ap values_of follows.0 ∙ ap (λ w. values_of (set_value (at_key c.args.version) es w)) is ∙ set_mark es c.args.version c.args.dep c.in-Some.held.now c.self.invariant c.in-Some.ensures.value))

pub returns-clause-err : goal.returns-clause-err
returns-clause-err c =
    let follows = c.get_mut.follows.holds c.mark.new.self in
    let es = c.self.inside.puts.entries in
    rw (← c.self.view_is)
    (on_err c.mark.result c.mark.ensures.err
    (λ is. ap values_of follows.0 ∙ ap (λ w. values_of (set_value (at_key c.args.version) es w)) is ∙ ap values_of (set_same es c.args.version c.in-Some.held.now c.in-Some.ensures.value)))
