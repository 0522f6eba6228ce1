-- From the result of reading to the result of `decode`.
use Rattle.std.proofs.Common.{◌≡◌, ℕ, ◌+◌, ◌^◌, ◌<◌, ◌≤◌, List, length, Option, Some, None, Result, Ok, Err, refl, sym, ap, subst, ◌∙◌, arith}
use Rattle.std.proofs.lemmas.List.{length-append}
use Rattle.cops_types.specs.declared.format.Format.{Format}
use Rattle.cops_types.specs.declared.format.Format.TheVariants.{One, Two}
use Rattle.cops_types.specs.declared.limits.TheConstants.{MAX_DEPS}
use Rattle.cops_types.specs.Format.{most_deps, longest_body}
use Rattle.cops_wire.specs.declared.fault.WireFault.{WireFault}
use Rattle.cops_wire.specs.declared.fault.WireFault.TheVariants.{Memory}
use Rattle.cops_wire.specs.declared.reading.ReadFault.TheVariants as faults
use Rattle.cops_wire.specs.declared.decoding.Decoded.{Decoded}
use Rattle.cops_wire.specs.Field.{Field, encoded_all}
use Rattle.cops_wire.specs.Answer.{IsBytes, IsAnswer, Answers}
use Rattle.cops_wire.specs.Grammar.{Grammar, Parts, grammar, fields_of}
use Rattle.cops_wire.specs.Lengths.{IsGrammar}
use Rattle.cops_wire.specs.Message.{parts}
use Rattle.cops_wire.specs.Reading.{body_at, known_fields_at, contents_at, frame_at}
use Rattle.cops_wire.specs.Records.{borrowed_message}
use Rattle.cops_wire.specs.declared.record_view.RecordView.{RecordView}
use Rattle.std.specs.Prelude.{IfSome}
use Rattle.cops_wire.proofs.Rows.{fields_stop}
use Rattle.cops_wire.proofs.Frames.{frame_answers, only_answer}

-- the messages of each format fit into their frames
pub grammar_ok : (format : Format) → IsGrammar (grammar format)
grammar_ok One = (omega arith, refl)
grammar_ok Two = (omega arith, refl)

-- an offset in a frame is a number of 32 bits
pub places_fit : (format : Format) → 4 + longest_body format < 2 ^ 32
places_fit One = omega arith
places_fit Two = omega arith

-- the limit of each format's dependencies is within that of all formats
pub most_deps_le : (format : Format) → most_deps format ≤ MAX_DEPS
most_deps_le One = omega arith
most_deps_le Two = omega arith

known_left : (o : Option (List Field)) (bytes : List ℕ) (left : ℕ) → IsBytes bytes → known_fields_at o bytes ≡ Err (faults.BadField left) → left ≤ length bytes
known_left None bytes left fits e = absurd cc
known_left (Some fs) bytes left fits e =
    let s = fields_stop fs bytes (faults.BadField left) fits e in
    let left_is : left ≡ length s.rest = let e = s.fault_is in cc in
    omega (arith, left_is, ap length s.split, length-append (encoded_all s.before s.contents) s.rest)

-- the bytes left at a bad field are part of the bytes
pub left_within : (g : Grammar) (kind : ℕ) (bytes : List ℕ) (left : ℕ) → IsBytes bytes → contents_at g kind bytes ≡ Err (faults.BadField left) → left ≤ length bytes
left_within g kind bytes left fits e = known_left (fields_of g kind) bytes left fits e

Answers-weaker : (r : Result Decoded WireFault) (P Q : Result (Parts × ℕ) WireFault → Type 0) → Answers r P → ((a : Result (Parts × ℕ) WireFault) → P a → Q a) → Answers r Q
Answers-weaker (Ok d) P Q h k = k _ h
Answers-weaker (Err Memory) P Q h k = tt
Answers-weaker (Err _) P Q h k = k _ h

pub answers : (g : Grammar) (bytes : List ℕ) (r : Result Decoded WireFault) → IsBytes bytes → Answers r (λ a. a ≡ frame_at g bytes) → Answers r (IsAnswer g bytes)
answers g bytes r fits h = Answers-weaker r (λ a. a ≡ frame_at g bytes) (IsAnswer g bytes) h (λ a e. subst (IsAnswer g bytes) (sym e) (frame_answers g bytes fits))

pub answers_only : (g : Grammar) → IsGrammar g → (bytes : List ℕ) (r : Result Decoded WireFault) → IsBytes bytes → Answers r (λ a. a ≡ frame_at g bytes)
    → (a : Result (Parts × ℕ) WireFault) → IsAnswer g bytes a → Answers r (λ b. b ≡ a)
answers_only g ok bytes r fits h a is = Answers-weaker r (λ a. a ≡ frame_at g bytes) (λ b. b ≡ a) h (λ b e. e ∙ only_answer g ok bytes fits a is)

-- the bytes decode to the borrowed record
pub seen_answers : (g : Grammar) (bytes text : List ℕ) (o : Option RecordView) → IsBytes bytes → frame_at g bytes ≡ body_at g text
    → IfSome o (λ r. body_at g text ≡ Ok (parts (borrowed_message r), r.used)) → IfSome o (λ r. IsAnswer g bytes (Ok (parts (borrowed_message r), r.used)))
seen_answers g bytes text None fits reading h = tt
seen_answers g bytes text (Some r) fits reading h = subst (IsAnswer g bytes) (reading ∙ h) (frame_answers g bytes fits)
