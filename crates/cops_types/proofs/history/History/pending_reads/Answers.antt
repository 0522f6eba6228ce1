use Rattle.cops_types.proofs.Sources.{open_or_sourced}
use Rattle.cops_types.proofs.history.History.pending_reads.Goals as goal

pub returns-clause-others : goal.returns-clause-others
returns-clause-others c =
    rw (← c.self.view_is) (open_or_sourced c.self.inside.keys.keys c.self.inside.entries.all c.self.inside.entries.gets c.self.invariant.sound c.gets.ensures.kept)
