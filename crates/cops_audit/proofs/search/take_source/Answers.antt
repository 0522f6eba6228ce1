use Rattle.cops_audit.proofs.Searching.{takes_put}
use Rattle.cops_audit.proofs.search.take_source.Goals as goal

pub returns-in_ok-raise-clause-takes : goal.returns-in_ok-raise-clause-takes
returns-in_ok-raise-clause-takes c = takes_put c.args.history.now.sessions c.args.name c.args.put c.args.search.now c.raise.new.self (c.is_source.ensures.source.0 c.if-is_source.true) c.in_ok-raise.ensures.raises
