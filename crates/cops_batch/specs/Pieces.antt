-- The operations in pieces, each with what its worker found.
use Rattle.std.specs.Prelude.{◌≡◌, ◌+◌, ◌<◌, ◌≤◌, ◌⊎◌, ◌/◌, ◌%◌, ◌^◌, ⊤, nat_lt, if◌then◌else◌, ℕ, List, [], ◌∷◌, length, All, AllPairs, slice_index_or, slice_range}
use Rattle.cops_types.specs.Faults.{IsBefore}
use Rattle.cops_types.specs.declared.gate.Point.{Point}
use Rattle.cops_types.specs.declared.gate.Point.TheVariants.{PieceStart, PieceDone}
use Rattle.cops_types.specs.declared.op.OpName.{OpName}
use Rattle.cops_batch.specs.declared.fault.BatchFault.{BatchFault}
use Rattle.cops_batch.specs.declared.fault.BatchFault.TheVariants as fault
use Rattle.cops_batch.specs.declared.pieces.Piece.{Piece}
use Rattle.cops_batch.specs.declared.pieces.PieceState.TheVariants.{Held}

-- the gate may hold this piece
abbrev pub MayHoldPiece : (Point → Type 0) → ℕ → Type 0
MayHoldPiece may_hold i = may_hold (PieceStart i) ⊎ may_hold (PieceDone i)

-- where a worker was held, the gate may hold its piece
abbrev pub IsStoppedByGate : (Point → Type 0) → Piece → Type 0
IsStoppedByGate may_hold p = p.state ≡ Held → MayHoldPiece may_hold p.number

-- the names of a piece
abbrev pub names_of : List OpName → Piece → List OpName
names_of names p = slice_range names p.start (p.start + p.len)

-- the pieces follow one another from a to b, numbered from i on
abbrev pub IsCut : ℕ → ℕ → List Piece → ℕ → Type 0
IsCut i a [] b = a ≡ b
IsCut i a (p ∷ ps) b = (p.number ≡ i) × (p.start ≡ a) × IsCut (i + 1) (a + p.len) ps b

-- the piece is within n operations
abbrev pub LiesWithin : ℕ → Piece → Type 0
LiesWithin n p = p.start + p.len ≤ n

-- 1 to 255 pieces of names that are in order
pub record ArePieces (names : List OpName) (ps : List Piece) : Type 0 where
  pub in_order : AllPairs IsBefore names
  pub cut : IsCut 0 0 ps (length names)
  pub within : All (LiesWithin (length names)) ps
  pub some : 0 < length ps
  pub few : length ps < 2 ^ 8

-- the length of a piece when `count` operations are cut for `workers` workers: the quotient, and one more for the first pieces, as many as the
-- remainder
abbrev pub piece_len : ℕ → ℕ → ℕ → ℕ
piece_len count workers i = count / workers + (if nat_lt i (count % workers) then 1 else 0)

-- the piece has the same number, start and length
abbrev pub SamePlace : Piece → Piece → Type 0
SamePlace p q = (q.number ≡ p.number) × (q.start ≡ p.start) × (q.len ≡ p.len)

-- P holds of each piece
abbrev pub Each : (Piece → Type 0) → List Piece → Type 0
Each P ps = (k : ℕ) (d : Piece) → k < length ps → P (slice_index_or ps k d)

-- as many pieces, each with the same number, start and length
pub record SamePlaces (ps qs : List Piece) : Type 0 where
  pub len : length qs ≡ length ps
  pub each : (k : ℕ) (d : Piece) → k < length ps → SamePlace (slice_index_or ps k d) (slice_index_or qs k d)

-- why there may be no verdict by n pieces: out of memory, or the gate held a worker, as it may for one of the pieces
abbrev pub MayFail : (Point → Type 0) → ℕ → BatchFault → Type 0
MayFail may_hold n fault.Memory = ⊤
MayFail may_hold n fault.BadWorkers = ⊥
MayFail may_hold n fault.Held = (i : ℕ) × (i < n) × MayHoldPiece may_hold i
