use Rattle.std.proofs.Common.{rules}
use Rattle.cops_batch.proofs.Cuts.{pieces_same}
use Rattle.cops_batch.proofs.batch.last_round.Goals as goal

pub finished-requires-clause-pieces : goal.finished-requires-clause-pieces
finished-requires-clause-pieces g c κs within = (c.requires.pieces.0, pieces_same (search rules) c.requires.pieces.1)
