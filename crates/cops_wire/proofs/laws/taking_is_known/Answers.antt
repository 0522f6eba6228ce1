use Rattle.cops_wire.specs.Grammar.{grammar}
use Rattle.cops_wire.proofs.Frames.{taking_known}
use Rattle.cops_wire.proofs.laws.taking_is_known.Goals as goal

pub returns : goal.returns
returns c = λ format bytes. taking_known (grammar format) bytes
