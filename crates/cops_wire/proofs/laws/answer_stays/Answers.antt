use Rattle.cops_wire.specs.Grammar.{grammar}
use Rattle.cops_wire.proofs.Frames.{answer_stays}
use Rattle.cops_wire.proofs.laws.answer_stays.Goals as goal

pub returns : goal.returns
returns c = λ format. answer_stays (grammar format)
