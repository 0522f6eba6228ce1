use Rattle.cops_types.proofs.Sources.{numbers_open, sourced_unless_open}
use Rattle.cops_types.proofs.history.History.pending_number.Goals as goal

pub returns-clause-pending : goal.returns-clause-pending
returns-clause-pending c =
    rw (← c.self.view_is) (numbers_open c.self.inside.keys.keys c.self.inside.entries.all c.self.inside.entries.gets c.args.got c.get_number.result c.get_number.ensures.number)

pub returns-clause-none : goal.returns-clause-none
returns-clause-none c =
    rw (← c.self.view_is) (sourced_unless_open c.self.inside.keys.keys c.self.inside.entries.all c.self.invariant.sound c.args.got c.get_number.result c.get_number.ensures.none)
