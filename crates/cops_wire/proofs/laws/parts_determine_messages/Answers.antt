use Rattle.cops_wire.proofs.Messages.{parts-same}
use Rattle.cops_wire.proofs.laws.parts_determine_messages.Goals as goal

pub returns : goal.returns
returns c = parts-same
