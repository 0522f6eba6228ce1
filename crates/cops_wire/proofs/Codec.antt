-- The lemmas on encodings and decoding that the layers above use. Each holds for every format.
use Rattle.std.proofs.Common.{◌≡◌, ◌≢◌, ℕ, ◌+◌, ◌<◌, ◌≤◌, List, [], ◌∷◌, ◌++◌, length, take, drop, Result, Ok, refl, sym, ap, subst, ◌∙◌, arith, inl, inr}
use Rattle.std.specs.Int.{w32, from_be_bytes}
use Rattle.std.proofs.lemmas.Bool.{cases_lt}
use Rattle.std.proofs.lemmas.List.{take_at, drop_at, take-append-le, length-append}
use Rattle.cops_types.specs.declared.format.Format.{Format}
use Rattle.cops_types.specs.Format.{longest_body}
use Rattle.cops_wire.specs.declared.fault.WireFault.{WireFault}
use Rattle.cops_wire.specs.declared.message.Message.{Message}
use Rattle.cops_wire.specs.Field.{u32, encoded_number}
use Rattle.cops_wire.specs.Answer.{IsBytes, length_at, IsShort, BeginsWithKnown, IsAnswer, IsFromFields}
use Rattle.cops_wire.specs.Grammar.{grammar, Parts, body, encoding}
use Rattle.cops_wire.specs.Legal.{IsMessage}
use Rattle.cops_wire.specs.Message.{parts}
use Rattle.cops_wire.specs.Reading.{frame_at}
use Rattle.cops_wire.proofs.Fields.{wide}
use Rattle.cops_wire.proofs.Frames.{known_answer, body_fits, only_answer, frame_answers, one_encoding}
use Rattle.cops_wire.proofs.Messages.{parts-same}
use Rattle.cops_wire.proofs.Answering.{grammar_ok, places_fit}

-- No encoding of a message is a prefix of another's, and each encodes only one message.
pub one_message : (format : Format) (m n : Message) (x y : List ℕ) → IsMessage (grammar format) (parts m) → IsMessage (grammar format) (parts n)
    → encoding (grammar format) (parts m) ++ x ≡ encoding (grammar format) (parts n) ++ y → (m ≡ n) × (x ≡ y)
one_message format m n x y legal_m legal_n e =
    let same = one_encoding (grammar format) (grammar_ok format) (parts m) (parts n) x y legal_m legal_n e in
    (parts-same m n same.0, same.1)

-- The result of decoding is what reading gives.
pub answer_is_read : (format : Format) (bytes : List ℕ) → IsBytes bytes → (a : Result (Parts × ℕ) WireFault) → IsAnswer (grammar format) bytes a → a ≡ frame_at (grammar format) bytes
answer_is_read format bytes fits a h = sym (only_answer (grammar format) (grammar_ok format) bytes fits a h)

-- What reading gives is the result of decoding.
pub read_is_answer : (format : Format) (bytes : List ℕ) → IsBytes bytes → (a : Result (Parts × ℕ) WireFault) → a ≡ frame_at (grammar format) bytes → IsAnswer (grammar format) bytes a
read_is_answer format bytes fits a e = subst (IsAnswer (grammar format) bytes) (sym e) (frame_answers (grammar format) bytes fits)

-- Decoding bytes has at most one result.
pub same_answer : (format : Format) (bytes : List ℕ) → IsBytes bytes → (a b : Result (Parts × ℕ) WireFault) → IsAnswer (grammar format) bytes a → IsAnswer (grammar format) bytes b → a ≡ b
same_answer format bytes fits a b is_a is_b = answer_is_read format bytes fits a is_a ∙ sym (answer_is_read format bytes fits b is_b)

-- An encoding decodes to its message, whatever follows it.
pub encoding_answered : (format : Format) (p : Parts) (rest : List ℕ) → IsMessage (grammar format) p
    → IsAnswer (grammar format) (encoding (grammar format) p ++ rest) (Ok (p, length (encoding (grammar format) p)))
encoding_answered format p rest legal = record { message = legal; rest = rest; front = refl; length_is = refl }

-- If bytes decode to a message, they are the message's encoding and then the bytes after the used ones.
pub answer_splits : (format : Format) (bytes : List ℕ) (p : Parts) (used : ℕ) → IsAnswer (grammar format) bytes (Ok (p, used))
    → IsMessage (grammar format) p × (used ≡ length (encoding (grammar format) p)) × (bytes ≡ encoding (grammar format) p ++ drop used bytes)
answer_splits format bytes p used h =
    let rest : drop used bytes ≡ h.rest = ap (drop used) h.front ∙ drop_at (encoding (grammar format) p) h.rest used (sym h.length_is) in
    (h.message, h.length_is, h.front ∙ ap (λ (t : List ℕ). encoding (grammar format) p ++ t) (sym rest))

-- the length of an encoding
pub length-encoding : (format : Format) (p : Parts) → length (encoding (grammar format) p) ≡ 4 + length (body (grammar format) p)
length-encoding format p = length-append (encoded_number u32 (length (body (grammar format) p))) (body (grammar format) p) ∙ ap (λ (n : ℕ). n + length (body (grammar format) p)) ((wide u32).len (length (body (grammar format) p)))

-- An encoding is longer than 4 bytes and no longer than a frame may be.
pub encoding_bounds : (format : Format) (p : Parts) → IsMessage (grammar format) p
    → (4 < length (encoding (grammar format) p)) × (length (encoding (grammar format) p) ≤ 4 + longest_body format)
encoding_bounds format p legal =
    let len = length-encoding format p in
    let fits = body_fits (grammar format) (grammar_ok format) p legal in
    (omega (arith, len), omega (arith, len, fits))

not_empty : (y : List ℕ) → y ≢ [] → 0 < length y
not_empty [] ne = absurd (ne refl)
not_empty (b ∷ bs) ne = omega arith

-- A proper prefix of an encoding is Short.
pub prefix_is_short : (format : Format) (p : Parts) (x y : List ℕ) → IsMessage (grammar format) p → encoding (grammar format) p ≡ x ++ y → y ≢ [] → IsShort (grammar format) x
prefix_is_short format p x y legal e more =
    let text : List ℕ = body (grammar format) p in
    let head : List ℕ = encoded_number u32 (length text) in
    let fits : length text ≤ longest_body format = body_fits (grammar format) (grammar_ok format) p legal in
    let size : length head ≡ 4 = (wide u32).len (length text) in
    let some : 0 < length y = not_empty y more in
    let total : length x + length y ≡ 4 + length text = sym (length-append x y) ∙ ap length (sym e) ∙ length-encoding format p in
    elim (cases_lt (length x) 4) [
      | inl lt ↦ inl lt
      | inr four ↦
          let front : take 4 x ≡ head = sym (take-append-le 4 x y four) ∙ ap (take 4) (sym e) ∙ take_at head text 4 size in
          let len : length_at x ≡ length text = ap (from_be_bytes w32) front ∙ (wide u32).again (length text) (omega (arith, fits, places_fit format)) in
          inr (omega (arith, len), omega (arith, len, fits), omega (arith, len, total, some))
    ]

-- The result for a whole frame of a known kind comes from its fields.
pub known_is_from_fields : (format : Format) (bytes : List ℕ) → IsBytes bytes → BeginsWithKnown (grammar format) bytes → (a : Result (Parts × ℕ) WireFault) → IsAnswer (grammar format) bytes a → IsFromFields a
known_is_from_fields format bytes fits known a h = known_answer (grammar format) (grammar_ok format) bytes fits known a h

-- The used bytes are within the bytes, and their number is a frame's length.
pub used_within : (format : Format) (bytes : List ℕ) (p : Parts) (used : ℕ) → IsAnswer (grammar format) bytes (Ok (p, used))
    → (4 < used) × (used ≤ length bytes) × (used ≤ 4 + longest_body format)
used_within format bytes p used h =
    let bounds = encoding_bounds format p h.message in
    let all : length bytes ≡ length (encoding (grammar format) p) + length h.rest = ap length h.front ∙ length-append (encoding (grammar format) p) h.rest in
    (omega (arith, h.length_is, bounds.0), omega (arith, h.length_is, all), omega (arith, h.length_is, bounds.1))
