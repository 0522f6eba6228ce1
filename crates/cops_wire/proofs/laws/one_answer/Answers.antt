use Rattle.cops_wire.proofs.Codec.{same_answer}
use Rattle.cops_wire.proofs.laws.one_answer.Goals as goal

pub returns : goal.returns
returns c = same_answer
