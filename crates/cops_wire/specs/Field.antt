-- The types of fields, and the encoding of each.
use Rattle.std.specs.Prelude.{ℕ, List, [], ◌∷◌, ◌++◌, length}
use Rattle.std.specs.List.{flat_map}
use Rattle.std.specs.Int.{Width, w8, w16, w32, w64, to_be_bytes}
use Rattle.cops_types.specs.declared.limits.TheConstants.{MAX_KEY}
use Rattle.cops_types.specs.declared.dep.Dep.{Dep}

-- a number of 1, 2, 4 or 8 bytes
pub data Size : Type 0 where
  u8 u16 u32 u64 : Size

-- the width of a number in bits
abbrev pub width : Size → Width
width u8 = w8
width u16 = w16
width u32 = w32
width u64 = w64

-- the type of a field: a number, a number from least to greatest, bytes after their length (which goes from least to greatest), a version, or at most
-- `most` pairs of a key and a version after their count
pub data Field : Type 0 where
  number : Size → Field
  number_in : Size → ℕ → ℕ → Field
  string : Size → ℕ → ℕ → Field
  version : Field
  pairs : ℕ → Field

-- the content of a field
pub data Content : Type 0 where
  of_number : ℕ → Content
  of_bytes : List ℕ → Content
  of_pairs : List Dep → Content

-- a key: 1 to 64 bytes
abbrev pub key : Field
key = string u8 1 MAX_KEY

-- big-endian; proofs unfold it only where the bytes of a number matter
unfoldable pub encoded_number : Size → ℕ → List ℕ
encoded_number s n = to_be_bytes (width s) n

-- bytes after their length
abbrev pub encoded_string : Size → List ℕ → List ℕ
encoded_string s bytes = encoded_number s (length bytes) ++ bytes

-- a key and its version
abbrev pub encoded_pair : Dep → List ℕ
encoded_pair d = encoded_string u8 d.key ++ encoded_number u64 d.version

-- the encoding of a field
abbrev pub encoded : Field → Content → List ℕ
encoded (number s) (of_number n) = encoded_number s n
encoded (number_in s least greatest) (of_number n) = encoded_number s n
encoded (string s least greatest) (of_bytes bytes) = encoded_string s bytes
encoded version (of_number n) = encoded_number u64 n
encoded (pairs most) (of_pairs ds) = encoded_number u16 (length ds) ++ flat_map encoded_pair ds
encoded _ _ = []

-- the encoding of fields in a row
abbrev pub encoded_all : List Field → List Content → List ℕ
encoded_all (f ∷ fs) (c ∷ cs) = encoded f c ++ encoded_all fs cs
encoded_all _ _ = []
