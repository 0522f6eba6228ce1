use Rattle.cops_wire.specs.Message.{encoded}
use Rattle.cops_trace.proofs.writing.append.Goals as goal

pub returns : goal.returns
unfolding encoded
returns c = c.encode-appended.ensures.ok
