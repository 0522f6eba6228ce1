use Rattle.cops_types.proofs.Sources.{names_sources}
use Rattle.cops_types.proofs.history.History.source_number.Goals as goal

pub returns : goal.returns
returns c =
    rw (← c.self.view_is) (names_sources c.self.inside.keys.keys c.self.inside.entries.all c.self.invariant.sound c.self.inside.entries.names c.args.got c.source_number.result c.source_number.ensures)
