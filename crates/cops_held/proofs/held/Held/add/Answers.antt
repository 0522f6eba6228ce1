use Rattle.cops_held.proofs.Tables.{inserted, inserted_table}
use Rattle.cops_held.proofs.held.Held.add.Goals as goal

pub invariant_of-self-2 : goal.invariant_of-self-2
invariant_of-self-2 c = rw (c.in_ok-_none.ensures.entries, c.put.ensures) (inserted_table c.self.inside.puts.entries c.args.held c.self.invariant)

pub returns-clause-ok : goal.returns-clause-ok
returns-clause-ok c =
    rw (c.in_ok-_none.ensures.entries, c.put.ensures, ← c.self.view_is) (inserted c.self.inside.puts.entries c.args.held c.self.invariant (rw (← c.self.view_is) at c.requires))
