use Rattle.std.specs.Prelude.{IsTrue}
use Rattle.cops_cluster.proofs.Joins.{found, found_none}
use Rattle.cops_cluster.proofs.differing.difference_where.Goals as goal

pub returns-clause-some : goal.returns-clause-some
returns-clause-some c = rw (← c.in_ok-kept.ensures, ← c.in_ok-heard.ensures) (found _ _ c.compared.result c.compared.ensures)

pub returns-clause-none : goal.returns-clause-none
returns-clause-none c = rw (← c.in_ok-kept.ensures, ← c.in_ok-heard.ensures) (found_none (IsTrue c.args.compares) _ _ c.compared.result c.compared.ensures)
