-- The grammar of a format: its kinds of messages with their fields, and how long a frame's body may be.
use Rattle.std.specs.Prelude.{ℕ, ◌==◌, if◌then◌else◌, List, [], ◌∷◌, ◌++◌, length, Option, Some, None, unwrap_or}
use Rattle.cops_types.specs.declared.format.Format.{Format}
use Rattle.cops_types.specs.declared.format.Format.TheVariants.{One, Two}
use Rattle.cops_types.specs.Format.{most_value, most_deps, longest_body}
use Rattle.cops_wire.specs.Field.{Field, Content, u8, u16, u32, u64, number, number_in, string, version, pairs, key, encoded_number, encoded_all}

pub record Grammar : Type 0 where
  pub kinds : List (ℕ × List Field)
  pub longest : ℕ

-- a value of the format
abbrev pub value : Format → Field
value format = string u16 0 (most_value format)

-- dependencies of the format
abbrev pub deps : Format → Field
deps format = pairs (most_deps format)

-- the kinds of deletions, which only format 2 has
abbrev pub kinds_of_deletions : Format → List (ℕ × List Field)
kinds_of_deletions One = []
kinds_of_deletions Two =
    (22, number u32 ∷ key ∷ [])
    ∷ (23, number u32 ∷ version ∷ [])
    ∷ (24, number u32 ∷ version ∷ [])
    ∷ (25, key ∷ version ∷ deps Two ∷ [])
    ∷ (26, number u16 ∷ number u32 ∷ key ∷ version ∷ [])
    ∷ (27, number u16 ∷ number u32 ∷ key ∷ version ∷ [])
    ∷ []

-- the table of kinds
abbrev pub grammar : Format → Grammar
grammar format = record {
  kinds =
      (1, number u16 ∷ number u16 ∷ [])
      ∷ (2, number_in u8 0 15 ∷ number_in u8 1 64 ∷ [])
      ∷ (3, number u32 ∷ key ∷ value format ∷ [])
      ∷ (4, number u32 ∷ key ∷ [])
      ∷ (5, number u32 ∷ version ∷ [])
      ∷ (6, number u32 ∷ value format ∷ version ∷ [])
      ∷ (7, number u32 ∷ [])
      ∷ (8, number u32 ∷ number_in u8 1 255 ∷ [])
      ∷ (9, key ∷ value format ∷ version ∷ deps format ∷ [])
      ∷ (10, number u32 ∷ key ∷ version ∷ [])
      ∷ (11, number u32 ∷ [])
      ∷ (12, number u32 ∷ [])
      ∷ (13, number u32 ∷ number_in u8 0 63 ∷ [])
      ∷ (14, number u32 ∷ number_in u64 0 281474976710655 ∷ number u32 ∷ number u32 ∷ number u32 ∷ [])
      ∷ (15, [])
      ∷ (16, [])
      ∷ (17, number u16 ∷ number u16 ∷ [])
      ∷ (18, number u16 ∷ number u32 ∷ key ∷ value format ∷ version ∷ [])
      ∷ (19, number u16 ∷ number u32 ∷ key ∷ value format ∷ version ∷ [])
      ∷ (20, number u16 ∷ number u32 ∷ key ∷ [])
      ∷ (21, number u32 ∷ [])
      ∷ kinds_of_deletions format;
  longest = longest_body format;
}

-- the grammars of both formats
abbrev pub grammar_one : Grammar
grammar_one = grammar One

abbrev pub grammar_two : Grammar
grammar_two = grammar Two

-- the fields in the first row with this kind
abbrev pub row_of : ℕ → List (ℕ × List Field) → Option (List Field)
row_of kind [] = None
row_of kind (row ∷ rows) = if kind == row.0 then Some row.1 else row_of kind rows

-- the fields of a kind, if the grammar has it
abbrev pub fields_of : Grammar → ℕ → Option (List Field)
fields_of g kind = row_of kind g.kinds

-- a message apart from its Rust type: its kind, and the contents of its fields
pub record Parts : Type 0 where
  pub kind : ℕ
  pub contents : List Content

-- the body of a message: the kind's byte and the fields
abbrev pub body : Grammar → Parts → List ℕ
body g p = p.kind ∷ encoded_all (unwrap_or (fields_of g p.kind) []) p.contents

-- the encoding of a message, its frame: its body after the body's length
abbrev pub encoding : Grammar → Parts → List ℕ
encoding g p = encoded_number u32 (length (body g p)) ++ body g p
