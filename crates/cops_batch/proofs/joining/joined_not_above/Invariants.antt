use Rattle.std.proofs.Common.{◌≡◌, ◌++◌, drop, flat_map}
use Rattle.cops_batch.specs.declared.pieces.Piece.{Piece}
use Rattle.cops_batch.proofs.joining.joined_not_above.Given as goal

abbrev pub invariant-loop-piece : goal.invariant-loop-piece
invariant-loop-piece l = flat_map (λ (p : Piece). p.not_above.items) l.pieces ≡ l.all.items ++ flat_map (λ (p : Piece). p.not_above.items) (drop l.piece-index l.pieces)
