use Rattle.cops_types.proofs.Showing.{numbers_put, number_is_put, no_number_no_put}
use Rattle.cops_types.proofs.entries.Entries.put_number.Goals as goal

pub returns-clause-number : goal.returns-clause-number
returns-clause-number c =
    rw (← c.self.view_is) (numbers_put c.self.inside.puts.items c.self.inside.gets.items c.self.inside.slots.all c.self.invariant c.args.name c.put_number.result c.put_number.ensures)

pub returns-clause-put : goal.returns-clause-put
returns-clause-put c =
    rw (← c.self.view_is) (number_is_put c.self.inside.puts.items c.self.inside.gets.items c.self.inside.slots.all c.self.invariant c.args.name c.put_number.result c.put_number.ensures)

pub returns-clause-none : goal.returns-clause-none
returns-clause-none c =
    rw (← c.self.view_is) (no_number_no_put c.self.inside.puts.items c.self.inside.gets.items c.self.inside.slots.all c.self.invariant c.args.name c.put_number.result c.put_number.ensures)
