use Rattle.std.proofs.Common.{◌≡◌, ◌+◌, ◌*◌, ◌<◌, ℕ, min, All, vec_len, slice_index_or}
use Rattle.cops_batch.specs.declared.pieces.Piece.{Piece}
use Rattle.cops_batch.specs.Pieces.{IsCut, LiesWithin, piece_len}
use Rattle.cops_batch.proofs.pieces.cut.Given as goal

abbrev pub invariant-loop-number : goal.invariant-loop-number
invariant-loop-number l = record {
  start : l.start ≡ l.number * l.short + min l.number l.longer;
  cut : IsCut 0 0 l.pieces.items l.start;
  within : All (LiesWithin l.count) l.pieces.items;
  lengths : (k : ℕ) (d : Piece) → k < l.number → (slice_index_or l.pieces.items k d).len ≡ piece_len l.count l.workers k;
  len : vec_len l.pieces ≡ l.number;
}
