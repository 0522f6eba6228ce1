use Rattle.std.proofs.Common.{rules}
use Rattle.cops_batch.proofs.Cuts.{pieces_same}
use Rattle.cops_batch.proofs.batch.judge_gets.Goals as goal

pub joined_before_stale-requires-clause-pieces : goal.joined_before_stale-requires-clause-pieces
joined_before_stale-requires-clause-pieces g c κs within = pieces_same (search rules) c.requires.pieces

pub judge_stale-requires-clause-pieces : goal.judge_stale-requires-clause-pieces
judge_stale-requires-clause-pieces g c κs within = pieces_same (search rules) c.requires.pieces

pub last_round-requires-clause-pieces : goal.last_round-requires-clause-pieces
last_round-requires-clause-pieces g c κs within = (_, pieces_same (search rules) c.requires.pieces)

pub last_round-requires-in-Err-clause-pieces : goal.last_round-requires-in-Err-clause-pieces
last_round-requires-in-Err-clause-pieces g c κs within = (_, pieces_same (search rules) c.requires.pieces)
