use Rattle.cops_wire.specs.Message.{parts}
use Rattle.cops_wire.proofs.Codec.{encoding_answered}
use Rattle.cops_wire.proofs.laws.encoding_is_answered.Goals as goal

pub returns : goal.returns
returns c = λ format m rest legal. encoding_answered format (parts m) rest legal
