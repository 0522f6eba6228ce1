use Rattle.std.proofs.Common.{false}
use Rattle.cops_net.proofs.Lists.{one_reply}
use Rattle.cops_net.proofs.laws.one_reply_each.Goals as goal

pub returns : goal.returns
returns c = λ format. one_reply format false
