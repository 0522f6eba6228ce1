use Rattle.std.proofs.Common.{◌≡◌, ℕ, ◌<◌, slice_index_or}
use Rattle.cops_batch.specs.declared.pieces.Piece.{Piece}
use Rattle.cops_batch.specs.declared.pieces.PieceState.TheVariants.{Fine, Held}
use Rattle.cops_batch.proofs.joining.finished.Given as goal

abbrev pub invariant-loop-piece : goal.invariant-loop-piece
invariant-loop-piece g l = (k : ℕ) (d : Piece) → k < l.piece-index → (slice_index_or l.pieces k d).state ≡ Held → ⊥

abbrev pub invariant-loop-piece-2 : goal.invariant-loop-piece-2
invariant-loop-piece-2 g l = (k : ℕ) (d : Piece) → k < l.piece-index → (slice_index_or l.pieces k d).state ≡ Fine
