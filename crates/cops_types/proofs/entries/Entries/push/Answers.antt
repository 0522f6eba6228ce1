use Rattle.std.proofs.Common.{arith}
use Rattle.std.proofs.lemmas.List.{length-map}
use Rattle.cops_types.specs.declared.slot.KeptPut.{KeptPut}
use Rattle.cops_types.proofs.Showing.{gains, has_slots, numbers_stay, stored}
use Rattle.cops_types.proofs.entries.Entries.push.Goals as goal

pub invariant_of-self : goal.invariant_of-self
invariant_of-self c =
    let slots = c.self.inside.slots.all in
    let there = has_slots c.self.inside.puts.items c.self.inside.gets.items slots c.args.client (rw (← c.self.view_is) at c.requires.inside) in
    rw c.push.ensures.slots (stored c.self.inside.puts.items c.self.inside.gets.items slots c.self.invariant c.args.client there c.args.entry c.store-slot.new.puts.items c.store-slot.new.gets.items c.store-slot.result
    (rw (← c.self.view_is) at c.requires.numbered) (rw (← c.self.view_is) at c.requires.source) c.store-slot.ensures.stored).0

pub returns-clause-all : goal.returns-clause-all
returns-clause-all c =
    let slots = c.self.inside.slots.all in
    let there = has_slots c.self.inside.puts.items c.self.inside.gets.items slots c.args.client (rw (← c.self.view_is) at c.requires.inside) in
    rw (c.push.ensures.slots, ← c.self.view_is) (stored c.self.inside.puts.items c.self.inside.gets.items slots c.self.invariant c.args.client there c.args.entry c.store-slot.new.puts.items c.store-slot.new.gets.items c.store-slot.result
    (rw (← c.self.view_is) at c.requires.numbered) (rw (← c.self.view_is) at c.requires.source) c.store-slot.ensures.stored).1

pub returns-clause-gains : goal.returns-clause-gains
returns-clause-gains c =
    let puts = c.self.inside.puts.items in
    let now = c.store-slot.new.puts.items in
    let more = gains c.args.entry _ puts now c.self.inside.gets.items c.store-slot.new.gets.items c.store-slot.result c.store-slot.ensures.stored in
    rw (← c.self.view_is) (record {
      names = omega (arith, more.0, length-map puts (λ (p : KeptPut). p.name), length-map now (λ (p : KeptPut). p.name));
      gets = more.1;
      more_puts = omega (arith, more.2, c.store-slot.ensures.puts);
      more_gets = omega (arith, more.3, c.store-slot.ensures.gets);
    })

pub returns-clause-numbers : goal.returns-clause-numbers
returns-clause-numbers c =
    let slots = c.self.inside.slots.all in
    let there = has_slots c.self.inside.puts.items c.self.inside.gets.items slots c.args.client (rw (← c.self.view_is) at c.requires.inside) in
    rw (c.push.ensures.slots, ← c.self.view_is) (numbers_stay c.self.inside.puts.items c.self.inside.gets.items slots c.args.client c.store-slot.result there)
