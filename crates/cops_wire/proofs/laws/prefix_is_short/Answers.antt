use Rattle.cops_wire.specs.Message.{parts}
use Rattle.cops_wire.proofs.Codec.{prefix_is_short}
use Rattle.cops_wire.proofs.laws.prefix_is_short.Goals as goal

pub returns : goal.returns
returns c = λ format m x y legal e more. prefix_is_short format (parts m) x y legal e more
