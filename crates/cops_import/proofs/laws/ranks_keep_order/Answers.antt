use Rattle.cops_import.proofs.InOrder.{keeps_order}
use Rattle.cops_import.proofs.laws.ranks_keep_order.Goals as goal

pub returns : goal.returns
returns c = keeps_order c.args.ranks.now c.len.ensures.ranks.increasing
