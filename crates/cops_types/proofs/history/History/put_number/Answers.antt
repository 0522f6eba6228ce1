use Rattle.cops_types.proofs.Sources.{no_puts_of, puts_of}
use Rattle.cops_types.proofs.history.History.put_number.Goals as goal

pub returns-clause-put : goal.returns-clause-put
returns-clause-put c = rw (← c.self.view_is) (puts_of c.self.inside.keys.keys c.self.inside.entries.all c.args.name c.put_number.result c.put_number.ensures.put)

pub returns-clause-none : goal.returns-clause-none
returns-clause-none c = rw (← c.self.view_is) (no_puts_of c.self.inside.keys.keys c.self.inside.entries.all c.args.name c.put_number.result c.put_number.ensures.none)
