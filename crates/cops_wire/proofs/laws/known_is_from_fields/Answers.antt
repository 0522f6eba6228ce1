use Rattle.cops_wire.proofs.Codec.{known_is_from_fields}
use Rattle.cops_wire.proofs.laws.known_is_from_fields.Goals as goal

pub returns : goal.returns
returns c = known_is_from_fields
