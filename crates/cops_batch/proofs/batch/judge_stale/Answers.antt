use Rattle.std.proofs.Common.{List, rules, sym, subst}
use Rattle.std.proofs.iter.Serving.{serving}
use Rattle.cops_types.specs.declared.op.OpName.{OpName}
use Rattle.cops_types.specs.Faults.{IsStale}
use Rattle.cops_audit.specs.declared.verdict.Stale.{Stale}
use Rattle.cops_batch.specs.Found.{HasNoEarlierFaults}
use Rattle.cops_batch.specs.Pieces.{ArePieces}
use Rattle.cops_batch.specs.declared.pieces.Piece.{Piece}
use Rattle.cops_batch.proofs.Cuts.{pieces_same}
use Rattle.cops_batch.proofs.Joins.{joined_all}
use Rattle.cops_batch.proofs.batch.judge_stale.Goals as goal

pub for_each_mut-requires-clause-accepts : goal.for_each_mut-requires-clause-accepts
for_each_mut-requires-clause-accepts g c κs within =
    let clean : HasNoEarlierFaults c.in-Ok.tables.sessions = subst HasNoEarlierFaults (sym c.in-Ok.ensures.sessions) c.requires.clean in
    let own : ArePieces c.in-Ok.tables.names c.args.pieces.now = subst (λ (names : List OpName). ArePieces names c.args.pieces.now) (sym c.in-Ok.ensures.names) c.requires.pieces in
    grind serving

pub finished-requires-clause-pieces : goal.finished-requires-clause-pieces
finished-requires-clause-pieces g c κs within = (_, pieces_same (search rules) c.requires.pieces)

pub verdict-requires-clause-sources : goal.verdict-requires-clause-sources
verdict-requires-clause-sources g c = (subst HasNoEarlierFaults (sym c.in-Ok.ensures.sessions) c.requires.clean).0

pub verdict-requires-clause-above : goal.verdict-requires-clause-above
verdict-requires-clause-above g c = (subst HasNoEarlierFaults (sym c.in-Ok.ensures.sessions) c.requires.clean).1

pub verdict-requires-clause-stale : goal.verdict-requires-clause-stale
verdict-requires-clause-stale g c =
    let t = c.in-Ok.tables in
    let own = subst (λ (names : List OpName). ArePieces names c.args.pieces.now) (sym c.in-Ok.ensures.names) c.requires.pieces in
    joined_all {A = Stale} (λ f. f.op) (λ f. IsStale t.sessions f.op f.newer) (λ (p : Piece). p.stale.items) t.names c.for_each_mut.new.s c.in-Ok-joined_stale.stale.items
    (pieces_same (search rules) own) c.in_ok-finished.ensures.fine (search rules) c.in-Ok-joined_stale.ensures
