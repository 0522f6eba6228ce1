use Rattle.cops_types.proofs.Showing.{kept_gets}
use Rattle.cops_types.proofs.entries.Entries.gets.Goals as goal

pub returns-clause-kept : goal.returns-clause-kept
returns-clause-kept c = rw (← c.self.view_is) (kept_gets c.self.inside.puts.items c.self.inside.gets.items c.self.inside.slots.all c.self.invariant)
