use Rattle.cops_wire.proofs.Messages.{first-in-second}
use Rattle.cops_wire.proofs.laws.first_is_in_second.Goals as goal

pub returns : goal.returns
returns c = λ m legal. first-in-second m legal
