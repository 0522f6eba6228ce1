use Rattle.cops_wire.specs.Message.{parts}
use Rattle.cops_wire.proofs.Codec.{encoding_bounds}
use Rattle.cops_wire.proofs.laws.encoding_is_bounded.Goals as goal

pub returns : goal.returns
returns c = λ format m legal. encoding_bounds format (parts m) legal
