use Rattle.std.proofs.Common.{List, Some, ap, sym, ◌∙◌, subst}
use Rattle.std.specs.Option.{option_map}
use Rattle.cops_types.specs.declared.slot.KeptPut.{KeptPut}
use Rattle.cops_types.specs.Slots.{IsFrom, shown}
use Rattle.cops_types.proofs.Showing.{has_value, item_at-shown}
use Rattle.cops_types.proofs.entries.Entries.get.Goals as goal

pub returns-in_err-slot-clause-entry : goal.returns-in_err-slot-clause-entry
returns-in_err-slot-clause-entry c =
    let puts = c.self.inside.puts.items in
    let gets = c.self.inside.gets.items in
    rw (c.from_residual.ensures, ← c.self.view_is) (ap (option_map (shown puts gets)) c.in_err-slot.ensures ∙ sym (item_at-shown puts gets c.self.inside.slots.all c.args.name))

pub returns-clause-entry : goal.returns-clause-entry
returns-clause-entry c =
    let puts = c.self.inside.puts.items in
    let gets = c.self.inside.gets.items in
    let entry = c.refer.ensures.entry ∙ (λ j. shown (c.deref.ensures.value j) (c.deref-2.ensures.value j) c.in_ok-slot.slot.now) in
    rw (← c.self.view_is) (ap Some entry ∙ ap (option_map (shown puts gets)) c.in_ok-slot.ensures ∙ sym (item_at-shown puts gets c.self.inside.slots.all c.args.name))

pub returns-clause-value : goal.returns-clause-value
returns-clause-value c =
    rw (← c.self.view_is) (has_value c.self.inside.puts.items c.self.inside.gets.items c.self.inside.slots.all c.self.invariant c.refer.result
    (subst (λ (puts : List KeptPut). IsFrom puts c.refer.result) c.deref.ensures.value c.refer.ensures.put))
