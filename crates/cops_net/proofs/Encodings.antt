-- The length of a message's encoding.
use Rattle.std.proofs.Common.{◌≡◌, ◌≢◌, [], ℕ, ◌+◌, List, ◌++◌, length, refl, sym, ap, ◌∙◌, arith}
use Rattle.std.proofs.lemmas.List.{length-append}
use Rattle.cops_types.specs.declared.format.Format.{Format}
use Rattle.cops_types.specs.declared.format.Format.TheVariants.{One, Two}
use Rattle.cops_wire.specs.declared.message.Message.{Message}
use Rattle.cops_wire.specs.Field.{u32, encoded_number}
use Rattle.cops_wire.specs.Grammar.{grammar, grammar_two, body, encoding}
use Rattle.cops_wire.specs.Message.{parts, encoded}
use Rattle.cops_wire.proofs.Messages.{first-in-second}
use Rattle.cops_net.specs.Protocol.{IsLegalIn}

number_len : (n : ℕ) → length (encoded_number u32 n) ≡ 4
unfolding encoded_number
number_len n = refl

pub encoded_is : (m : Message) → encoding grammar_two (parts m) ≡ encoded m
unfolding encoded
encoded_is m = refl

-- a message that is legal in a format has the encoding of that format
encoded_in : (format : Format) (m : Message) → IsLegalIn format m → encoding (grammar format) (parts m) ≡ encoded m
encoded_in One m legal = sym (first-in-second m legal).1 ∙ encoded_is m
encoded_in Two m legal = encoded_is m

-- what encoding a message appends to an empty text
pub appended_to_none : (m : Message) (none text : List ℕ) → none ≡ [] → text ≡ none ++ encoding grammar_two (parts m) → text ≡ encoded m
appended_to_none m none text empty e = rw empty at e ∙ encoded_is m

-- an encoding has four bytes for the length, and the body
pub encoded_len : (m : Message) → length (encoded m) ≡ 4 + length (body grammar_two (parts m))
unfolding encoded
encoded_len m = let b = body grammar_two (parts m) in length-append (encoded_number u32 (length b)) b ∙ ap (λ (n : ℕ). n + length b) (number_len (length b))

-- taking a message of a format off the input
pub taken_off : (format : Format) (m : Message) (came rest : List ℕ) → IsLegalIn format m → came ≡ encoding (grammar format) (parts m) ++ rest → came ≡ encoded m ++ rest
taken_off format m came rest legal e = e ∙ ap (λ (x : List ℕ). x ++ rest) (encoded_in format m legal)

-- the number of bytes that are left then
pub taken_len : (m : Message) (came rest : List ℕ) → came ≡ encoded m ++ rest → length came ≡ 4 + length (body grammar_two (parts m)) + length rest
taken_len m came rest e = ap length e ∙ length-append (encoded m) rest ∙ ap (λ (n : ℕ). n + length rest) (encoded_len m)

-- an encoding is not empty
pub encoded_some : (m : Message) → encoded m ≢ []
encoded_some m e = absurd (omega (arith, ap length e, encoded_len m))
