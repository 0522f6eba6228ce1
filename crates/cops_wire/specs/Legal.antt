-- The legal contents of fields and messages.
use Rattle.std.specs.Prelude.{ℕ, ◌<◌, ◌≤◌, ◌^◌, ◌*◌, List, [], ◌∷◌, length, MatchOption}
use Rattle.std.specs.Int.{byte_len}
use Rattle.cops_types.specs.Deps.{ArePairs}
use Rattle.cops_types.specs.Version.{IsVersion}
use Rattle.cops_wire.specs.Field.{Size, u16, width, Field, Content, number, number_in, string, version, pairs, of_number, of_bytes, of_pairs}
use Rattle.cops_wire.specs.Grammar.{Grammar, Parts, fields_of, grammar_two}
use Rattle.cops_wire.specs.Message.{parts}
use Rattle.cops_wire.specs.declared.message.Message.{Message}

-- the least number that does not fit
abbrev pub limit : Size → ℕ
limit s = 2 ^ (8 * byte_len (width s))

-- the content is legal in the field
abbrev pub IsLegal : Field → Content → Type 0
IsLegal (number s) (of_number n) = n < limit s
IsLegal (number_in s least greatest) (of_number n) = (n < limit s) × (least ≤ n) × (n ≤ greatest)
IsLegal (string s least greatest) (of_bytes bytes) = (length bytes < limit s) × (least ≤ length bytes) × (length bytes ≤ greatest)
IsLegal version (of_number n) = IsVersion n
IsLegal (pairs most) (of_pairs ds) = (length ds < limit u16) × (length ds ≤ most) × ArePairs ds
IsLegal _ _ = ⊥

-- the contents are legal in the fields, one for each
abbrev pub AllLegal : List Field → List Content → Type 0
AllLegal [] [] = Unit {0}
AllLegal (f ∷ fs) (c ∷ cs) = IsLegal f c × AllLegal fs cs
AllLegal _ _ = ⊥

-- a legal message of the grammar: its kind is in the table, and each field is within its range
abbrev pub IsMessage : Grammar → Parts → Type 0
IsMessage g p = MatchOption (fields_of g p.kind) ⊥ (λ fields. AllLegal fields p.contents)

-- the message is legal in format 2, which has all messages
abbrev pub IsLegalMessage : Message → Type 0
IsLegalMessage m = IsMessage grammar_two (parts m)
