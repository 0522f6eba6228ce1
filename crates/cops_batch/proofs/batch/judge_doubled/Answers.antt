use Rattle.std.proofs.Common.{rules}
use Rattle.cops_types.specs.declared.op.OpName.{OpName}
use Rattle.cops_types.specs.VersionOrder.{IsDoubled}
use Rattle.cops_batch.specs.declared.pieces.Piece.{Piece}
use Rattle.cops_batch.proofs.Cuts.{pieces_same}
use Rattle.cops_batch.proofs.Joins.{joined_all}
use Rattle.cops_batch.proofs.batch.judge_doubled.Goals as goal

pub finished-requires-clause-pieces : goal.finished-requires-clause-pieces
finished-requires-clause-pieces g c κs within = (_, pieces_same (search rules) c.requires.pieces)

pub refused_doubled-verdict-requires-clause-faults : goal.refused_doubled-verdict-requires-clause-faults
refused_doubled-verdict-requires-clause-faults g c =
    let puts = c.args.puts in
    joined_all {A = OpName} (λ n. n) (IsDoubled puts.sessions) (λ (p : Piece). p.names.items) puts.names c.for_each_mut.new.s c.in-Ok.faults.items
    (pieces_same (search rules) c.requires.pieces) c.in_ok-finished.ensures.fine (search rules) c.in-Ok.ensures
