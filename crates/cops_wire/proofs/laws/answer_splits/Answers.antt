use Rattle.cops_wire.proofs.Codec.{answer_splits}
use Rattle.cops_wire.proofs.laws.answer_splits.Goals as goal

pub returns : goal.returns
returns c = answer_splits
