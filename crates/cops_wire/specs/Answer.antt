-- What some bytes decode to. These checks are made in order, and the first that applies gives the result:
-- 1. fewer than four bytes: Short;
-- 2. the length in the first four bytes is 0 or above the longest of a body: BadLength;
-- 3. fewer bytes than four plus that length: Short;
-- 4. the body's first byte is no kind of the grammar: UnknownKind;
-- 5. a field, from the left, that runs past the body's end or is not legal: BadField, with the offset of that field's
--    first byte, counted from the frame's first byte;
-- 6. bytes of the body are left after the last field: TrailingBytes.
-- Otherwise the result is the message and the number of bytes of its frame. The bytes after the frame do not matter.
use Rattle.std.specs.Prelude.{◌≡◌, ◌≢◌, ℕ, ◌+◌, ◌<◌, ◌≤◌, ◌⊎◌, List, [], ◌∷◌, ◌++◌, length, take, slice_index, Some, None, IsSome, IsTrue, Result, Ok, Err}
use Rattle.std.specs.Int.{w32, from_be_bytes}
use Rattle.cops_wire.specs.declared.fault.WireFault.{WireFault}
use Rattle.cops_wire.specs.declared.fault.WireFault.TheVariants.{Memory, Short, BadLength, UnknownKind, BadField, TrailingBytes}
use Rattle.cops_wire.specs.declared.decoding.Decoded.{Decoded}
use Rattle.cops_wire.specs.Field.{u32, Field, Content, encoded_number, encoded, encoded_all}
use Rattle.cops_wire.specs.Memory.{takes_memory, first_part}
use Rattle.cops_wire.specs.Legal.{IsLegal, AllLegal, IsMessage}
use Rattle.cops_wire.specs.Grammar.{Grammar, Parts, fields_of, encoding}
use Rattle.cops_wire.specs.Message.{parts}

-- a list of bytes
abbrev pub IsBytes : List ℕ → Type 0
IsBytes bytes = (i : ℕ) → slice_index bytes i < 256

-- the number in the first four bytes
abbrev pub length_at : List ℕ → ℕ
length_at bytes = from_be_bytes w32 (take 4 bytes)

-- checks 1 and 3
abbrev pub IsShort : Grammar → List ℕ → Type 0
IsShort g bytes = (length bytes < 4) ⊎ ((0 < length_at bytes) × (length_at bytes ≤ g.longest) × (length bytes < 4 + length_at bytes))

-- check 2
abbrev pub HasBadLength : Grammar → List ℕ → Type 0
HasBadLength g bytes = (4 ≤ length bytes) × ((length_at bytes ≡ 0) ⊎ (g.longest < length_at bytes))

-- the bytes pass the first three checks: they begin with a whole frame, of this kind, with these bytes for its fields
pub record BeginsWithFrame (g : Grammar) (bytes : List ℕ) (kind : ℕ) (fields : List ℕ) : Type 0 where
  pub rest : List ℕ
  pub front : bytes ≡ encoded_number u32 (length (kind ∷ fields)) ++ (kind ∷ fields) ++ rest
  pub fits : length (kind ∷ fields) ≤ g.longest

-- check 4
pub record HasUnknownKind (g : Grammar) (bytes : List ℕ) : Type 0 where
  pub kind : ℕ
  pub fields : List ℕ
  pub frame : BeginsWithFrame g bytes kind fields
  pub unknown : fields_of g kind ≡ None

-- the bytes begin with a whole frame of a kind of the grammar
pub record BeginsWithKnown (g : Grammar) (bytes : List ℕ) : Type 0 where
  pub kind : ℕ
  pub fields : List ℕ
  pub frame : BeginsWithFrame g bytes kind fields
  pub known : IsSome (fields_of g kind)

-- The bytes begin with a whole frame of a kind of the grammar. It has legal fields up to a field whose reading allocates: a key or a value that is
-- legal too, or dependencies whose count is legal.
pub record BeginsWithTaking (g : Grammar) (bytes : List ℕ) : Type 0 where
  pub kind : ℕ
  pub fields : List ℕ
  pub frame : BeginsWithFrame g bytes kind fields
  pub before : List Field
  pub field : Field
  pub after : List Field
  pub known : fields_of g kind ≡ Some (before ++ field ∷ after)
  pub takes : IsTrue (takes_memory field)
  pub contents : List Content
  pub legal : AllLegal before contents
  pub rest : List ℕ
  pub split : fields ≡ encoded_all before contents ++ rest
  pub part : Content
  pub part_legal : IsLegal (first_part field) part
  pub more : List ℕ
  pub begins : rest ≡ encoded (first_part field) part ++ more

-- the bytes begin with no legal field of this type: each runs past the end, or differs
abbrev pub NoneBegins : Field → List ℕ → Type 0
NoneBegins field bytes = (c : Content) → IsLegal field c → (rest : List ℕ) → bytes ≢ encoded field c ++ rest

-- check 5: legal fields, and then a place where the next field cannot be read
pub record HasBadField (g : Grammar) (bytes : List ℕ) (offset : ℕ) : Type 0 where
  pub kind : ℕ
  pub fields : List ℕ
  pub frame : BeginsWithFrame g bytes kind fields
  pub before : List Field
  pub field : Field
  pub after : List Field
  pub known : fields_of g kind ≡ Some (before ++ field ∷ after)
  pub contents : List Content
  pub legal : AllLegal before contents
  pub rest : List ℕ
  pub split : fields ≡ encoded_all before contents ++ rest
  pub bad : NoneBegins field rest
  pub place : offset ≡ 5 + length (encoded_all before contents)

-- check 6: all the fields, and then more bytes of the body
pub record HasTrailingBytes (g : Grammar) (bytes : List ℕ) : Type 0 where
  pub kind : ℕ
  pub fields : List ℕ
  pub frame : BeginsWithFrame g bytes kind fields
  pub types : List Field
  pub known : fields_of g kind ≡ Some types
  pub contents : List Content
  pub legal : AllLegal types contents
  pub rest : List ℕ
  pub split : fields ≡ encoded_all types contents ++ rest
  pub more : rest ≢ []

-- no fault: the bytes begin with a message's encoding, of length `used`
pub record HasMessage (g : Grammar) (bytes : List ℕ) (p : Parts) (used : ℕ) : Type 0 where
  pub message : IsMessage g p
  pub rest : List ℕ
  pub front : bytes ≡ encoding g p ++ rest
  pub length_is : used ≡ length (encoding g p)

-- The bytes decode to this result.
abbrev pub IsAnswer : Grammar → List ℕ → Result (Parts × ℕ) WireFault → Type 0
IsAnswer g bytes (Ok x) = HasMessage g bytes x.0 x.1
IsAnswer g bytes (Err Memory) = ⊥
IsAnswer g bytes (Err Short) = IsShort g bytes
IsAnswer g bytes (Err BadLength) = HasBadLength g bytes
IsAnswer g bytes (Err UnknownKind) = HasUnknownKind g bytes
IsAnswer g bytes (Err (BadField offset)) = HasBadField g bytes offset
IsAnswer g bytes (Err TrailingBytes) = HasTrailingBytes g bytes

-- The result comes from reading the fields, which may allocate.
abbrev pub IsFromFields : Result (Parts × ℕ) WireFault → Type 0
IsFromFields (Ok x) = Unit {0}
IsFromFields (Err (BadField offset)) = Unit {0}
IsFromFields (Err TrailingBytes) = Unit {0}
IsFromFields (Err _) = ⊥

-- The result of `decode`, apart from its Rust types, has this property, unless memory ran out.
abbrev pub Answers : Result Decoded WireFault → (Result (Parts × ℕ) WireFault → Type 0) → Type 0
Answers (Ok d) P = P (Ok (parts d.message, d.used))
Answers (Err Memory) P = Unit {0}
Answers (Err fault) P = P (Err fault)

-- the offset of a bad field is within a frame whose body has at most `most` bytes, and after the kind's byte
abbrev pub IsPlacedWithin : ℕ → WireFault → Type 0
IsPlacedWithin most (BadField offset) = (4 < offset) × (offset ≤ 4 + most)
IsPlacedWithin most _ = Unit {0}
