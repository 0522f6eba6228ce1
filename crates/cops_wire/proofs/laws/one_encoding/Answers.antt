use Rattle.cops_wire.proofs.Codec.{one_message}
use Rattle.cops_wire.proofs.laws.one_encoding.Goals as goal

pub returns : goal.returns
returns c = one_message
