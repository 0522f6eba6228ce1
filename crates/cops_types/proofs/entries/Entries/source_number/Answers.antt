use Rattle.cops_types.proofs.Showing.{names_source}
use Rattle.cops_types.proofs.entries.Entries.source_number.Goals as goal

pub returns : goal.returns
returns c =
    rw (← c.self.view_is) (names_source c.self.inside.puts.items c.self.inside.gets.items c.self.inside.slots.all c.self.invariant c.args.name c.source_number.result c.source_number.ensures)
