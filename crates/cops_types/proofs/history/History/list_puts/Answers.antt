use Rattle.cops_types.proofs.Sources.{all_puts}
use Rattle.cops_types.proofs.history.History.list_puts.Goals as goal

pub returns-clause-puts : goal.returns-clause-puts
returns-clause-puts c =
    rw (← c.self.view_is) (all_puts c.self.inside.keys.keys c.self.inside.entries.all c.list_puts.new.to.items c.in_ok-list_puts.ensures.puts)
