use Rattle.cops_types.proofs.Showing.{numbers_get, no_number_no_get, reports_number}
use Rattle.cops_types.proofs.entries.Entries.get_number.Goals as goal

pub returns-clause-number : goal.returns-clause-number
returns-clause-number c =
    rw (← c.self.view_is) (numbers_get c.self.inside.puts.items c.self.inside.gets.items c.self.inside.slots.all c.self.invariant c.args.name c.get_number.result c.get_number.ensures)

pub returns-clause-none : goal.returns-clause-none
returns-clause-none c =
    rw (← c.self.view_is) (no_number_no_get c.self.inside.puts.items c.self.inside.gets.items c.self.inside.slots.all c.self.invariant c.args.name c.get_number.result c.get_number.ensures)

pub returns-clause-numbered : goal.returns-clause-numbered
returns-clause-numbered c =
    rw (← c.self.view_is) (reports_number c.self.inside.puts.items c.self.inside.gets.items c.self.inside.slots.all c.self.invariant c.args.name c.get_number.result c.get_number.ensures)
