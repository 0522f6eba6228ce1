use Rattle.std.proofs.Common.{◌≡◌, sym, ap, ◌∙◌, subst, Option, IfSome}
use Rattle.cops_held.specs.Held.{Waiting, without}
use Rattle.cops_held.proofs.Tables.{found, removed, removed_table, at_version}
use Rattle.cops_held.proofs.held.Held.take.Goals as goal

pub invariant_of-self : goal.invariant_of-self
invariant_of-self c = rw c.remove.ensures.entries (removed_table c.self.inside.puts.entries c.args.version c.self.invariant)

pub returns-clause-taken : goal.returns-clause-taken
returns-clause-taken c = rw (← c.self.view_is) (c.remove.ensures.value ∙ found c.self.inside.puts.entries c.args.version c.self.invariant)

pub returns-clause-rest : goal.returns-clause-rest
returns-clause-rest c = rw (c.remove.ensures.entries, ← c.self.view_is) (removed c.self.inside.puts.entries c.args.version c.self.invariant)

pub returns-clause-version : goal.returns-clause-version
returns-clause-version c =
    rw (c.remove.ensures.value ∙ found c.self.inside.puts.entries c.args.version c.self.invariant) (at_version _ c.args.version)
