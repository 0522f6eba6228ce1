use Rattle.cops_types.specs.declared.op.OpName.{OpName}
use Rattle.cops_audit.specs.declared.verdict.NotAbove.{NotAbove}
use Rattle.cops_types.specs.Faults.{HasNoSource, IsNotAbove}
use Rattle.cops_batch.specs.declared.pieces.Piece.{Piece}
use Rattle.cops_batch.proofs.Joins.{joined_all}
use Rattle.cops_batch.proofs.joining.joined_before_stale.Goals as goal

pub verdict_before_stale-requires-clause-sourceless : goal.verdict_before_stale-requires-clause-sourceless
verdict_before_stale-requires-clause-sourceless g c =
    let p = c.args.puts.now in
    joined_all {A = OpName} (λ n. n) (HasNoSource p.sessions) (λ (piece : Piece). piece.names.items) p.names c.args.pieces.now c.in-Ok.sourceless.items
    c.requires.pieces c.in_ok-finished.ensures.fine (λ k d below fine. (c.requires.found k d below fine).sourceless) c.in-Ok.ensures

pub verdict_before_stale-requires-clause-not_above : goal.verdict_before_stale-requires-clause-not_above
verdict_before_stale-requires-clause-not_above g c =
    let p = c.args.puts.now in
    joined_all {A = NotAbove} (λ f. f.op) (λ f. IsNotAbove p.sessions f.op f.earlier) (λ (piece : Piece). piece.not_above.items) p.names c.args.pieces.now c.in-Ok-joined_not_above.not_above.items
    c.requires.pieces c.in_ok-finished.ensures.fine (λ k d below fine. (c.requires.found k d below fine).not_above) c.in-Ok-joined_not_above.ensures
