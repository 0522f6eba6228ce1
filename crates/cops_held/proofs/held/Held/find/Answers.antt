use Rattle.std.proofs.Common.{◌∙◌}
use Rattle.cops_held.proofs.Tables.{found}
use Rattle.cops_held.proofs.held.Held.find.Goals as goal

pub returns : goal.returns
returns c = rw (← c.self.view_is) (c.get.ensures.value ∙ found c.self.inside.puts.entries c.args.version c.self.invariant)
