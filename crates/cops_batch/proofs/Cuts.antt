-- Pieces that follow one another.
use Rattle.std.proofs.Common.{◌≡◌, ℕ, zero, suc, ◌+◌, ◌*◌, ◌/◌, ◌%◌, ◌<◌, ◌≤◌, List, [], ◌∷◌, ◌++◌, length, sym, ◌∙◌, ap, arith, subst, inl, inr, min, ltb, get_or, slice_index_or}
use Rattle.std.specs.Int.{from_bool}
use Rattle.std.proofs.Math.Nat.{mul-le-mul_left}
use Rattle.std.proofs.Math.Seq.{get_or-append_seam}
use Rattle.std.proofs.lemmas.Bool.{cases_lt, lt-ltb, le-ltb}
use Rattle.std.proofs.lemmas.List.{get_or_append_left}
use Rattle.cops_types.specs.declared.gate.Point.{Point}
use Rattle.cops_types.specs.declared.op.OpName.{OpName}
use Rattle.cops_batch.specs.declared.pieces.Piece.{Piece}
use Rattle.cops_batch.specs.declared.pieces.PieceState.TheVariants.{Held}
use Rattle.cops_batch.specs.Pieces.{ArePieces, Each, IsCut, IsStoppedByGate, MayHoldPiece, SamePlace, SamePlaces, piece_len}

-- one more piece at the end
pub cut_more : (i a b : ℕ) (ps : List Piece) (p : Piece) → IsCut i a ps b → p.number ≡ i + length ps → p.start ≡ b → IsCut i a (ps ++ p ∷ []) (b + p.len)
cut_more i a b [] p cut number start = (omega (arith, number), start ∙ sym cut, ap (λ k. k + p.len) cut)
cut_more i a b (q ∷ qs) p cut number start =
    (cut.0, cut.1, cut_more (i + 1) (a + q.len) b qs p cut.2 (omega (arith, number)) start)

-- the start after the next piece, which is within the operations, and the length of that piece
pub next_start : (count w n start more : ℕ) → 0 < w → n < w → start ≡ n * (count / w) + min n (count % w) → more ≡ from_bool (ltb n (count % w))
    → (start + (count / w + more) ≡ (n + 1) * (count / w) + min (n + 1) (count % w)) × (start + (count / w + more) ≤ count) × (count / w + more ≡ piece_len count w n)
next_start count w n start more some below is by =
    let h : (count / w) * (n + 1) ≤ (count / w) * w = mul-le-mul_left (count / w) (omega arith) in
    elim (cases_lt n (count % w)) [
      | inl l ↦ (let one : more ≡ 1 = rw (lt-ltb n (count % w) l) at by in (omega arith, omega arith, rw (lt-ltb n (count % w) l, one)))
      | inr s ↦ (let none : more ≡ 0 = rw (le-ltb n (count % w) s) at by in (omega arith, omega arith, rw (le-ltb n (count % w) s, none)))
    ]

-- the lengths of the pieces so far, with one more
pub lengths_more : (count workers n : ℕ) (ps : List Piece) (p : Piece) → length ps ≡ n → ((k : ℕ) (d : Piece) → k < n → (get_or ps k d).len ≡ piece_len count workers k) → p.len ≡ piece_len count workers n
    → (k : ℕ) (d : Piece) → k < n + 1 → (get_or (ps ++ p ∷ []) k d).len ≡ piece_len count workers k
lengths_more count workers n ps p len old new k d below = elim (cases_lt k n) [
  | inl before ↦ ap (λ (q : Piece). q.len) (get_or_append_left ps (p ∷ []) d k (omega (arith, before, len))) ∙ old k d before
  | inr last ↦
      let at : k ≡ length ps = omega (arith, below, last, len) in
      let is : k ≡ n = omega (arith, below, last) in
      ap (λ m. (get_or (ps ++ p ∷ []) m d).len) at ∙ (ap (λ (q : Piece). q.len) (get_or-append_seam ps p [] d) ∙ (new ∙ ap (λ m. piece_len count workers m) (sym is)))
]

cut_number : (i a b : ℕ) (ps : List Piece) (k : ℕ) (d : Piece) → IsCut i a ps b → k < length ps → (slice_index_or ps k d).number ≡ i + k
cut_number i a b [] k d cut below = absurd (omega arith)
cut_number i a b (p ∷ ps) zero d cut below = omega (arith, cut.0)
cut_number i a b (p ∷ ps) (suc k) d cut below = omega (arith, cut_number (i + 1) (a + p.len) b ps k d cut.2 (omega arith))

cut_same : (i a b : ℕ) (ps qs : List Piece) → length qs ≡ length ps → ((k : ℕ) (d : Piece) → k < length ps → SamePlace (slice_index_or ps k d) (slice_index_or qs k d)) → IsCut i a ps b → IsCut i a qs b
cut_same i a b [] [] len same cut = cut
cut_same i a b [] (q ∷ qs) len same cut = absurd (omega (arith, len))
cut_same i a b (p ∷ ps) [] len same cut = absurd (omega (arith, len))
cut_same i a b (p ∷ ps) (q ∷ qs) len same cut =
    let here = same zero p (omega arith) in
    let P : ℕ → Type 0 = λ k. IsCut (i + 1) (a + k) qs b in (
      here.0 ∙ cut.0,
      here.1 ∙ cut.1,
      subst P (sym here.2) (cut_same (i + 1) (a + p.len) b ps qs (omega (arith, len)) (λ k d below. same (suc k) d (omega (arith, below))) cut.2),
    )

-- pieces with the same numbers, starts and lengths are pieces of as many operations
pub pieces_same : {names : List OpName} {ps qs : List Piece} → SamePlaces ps qs → ArePieces names ps → ArePieces names qs
pieces_same {names} {ps} {qs} same pieces = record {
  in_order = pieces.in_order;
  cut = cut_same 0 0 (length names) ps qs same.len same.each pieces.cut;
  within = λ k d below. (let s = same.each k d (omega (arith, below, same.len)) in omega (arith, pieces.within k d (omega (arith, below, same.len)), s.1, s.2));
  some = omega (arith, pieces.some, same.len);
  few = omega (arith, pieces.few, same.len);
}

-- where a piece was held, the gate may hold it
pub held_at : (may_hold : Point → Type 0) (ps : List Piece) (k : ℕ) (p : Piece) → k < length ps → p ≡ get_or ps k p → p.state ≡ Held
    → (names : List OpName) × ArePieces names ps → Each (IsStoppedByGate may_hold) ps → (x : ℕ) × (x < length ps) × MayHoldPiece may_hold x
held_at may_hold ps k p below is state pieces all =
    let n : p.number ≡ 0 + k = ap (λ (q : Piece). q.number) is ∙ cut_number 0 0 (length pieces.0) ps k p pieces.1.cut below in
    let mine : IsStoppedByGate may_hold p = subst (IsStoppedByGate may_hold) (sym is) (all k p below) in
    (p.number, omega (arith, n, below), mine state)
