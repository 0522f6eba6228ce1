use Rattle.cops_wire.proofs.Codec.{answer_is_read, read_is_answer}
use Rattle.cops_wire.proofs.laws.answer_is_read.Goals as goal

pub returns : goal.returns
returns c = λ format bytes fits a. (answer_is_read format bytes fits a, read_is_answer format bytes fits a)
