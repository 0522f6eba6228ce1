-- Decoding by reading from left to right, as a function: the result that bytes have, computed.
use Rattle.std.specs.Prelude.{◌≡◌, ℕ, ◌+◌, ◌-◌, zero, suc, Bool, true, false, ◌&&◌, ◌||◌, not, nat_lt, nat_le, ◌==◌, if◌then◌else◌, List, [], ◌∷◌, length, take, drop, Option, Some, None, unwrap_or, is_some, IsTrue, Result, Ok, Err, ◌/◌, ◌%◌}
use Rattle.std.specs.List.{list_any}
use Rattle.std.specs.Int.{w32, byte_len, from_be_bytes}
use Rattle.cops_types.specs.declared.limits.TheConstants.{MAX_KEY, NODES}
use Rattle.cops_types.specs.declared.dep.Dep.{Dep}
use Rattle.cops_types.specs.Dep.{is_same_dep}
use Rattle.cops_wire.specs.declared.fault.WireFault.{WireFault}
use Rattle.cops_wire.specs.declared.fault.WireFault.TheVariants.{Memory, Short, BadLength, UnknownKind, BadField, TrailingBytes}
use Rattle.cops_wire.specs.declared.reading.ReadFault.{ReadFault}
use Rattle.cops_wire.specs.declared.reading.ReadFault.TheVariants as faults
use Rattle.cops_wire.specs.Field.{Size, u8, u16, u64, width, Field, Content, number, number_in, string, version, pairs, of_number, of_bytes, of_pairs}
use Rattle.cops_wire.specs.Memory.{takes_memory, first_part}
use Rattle.cops_wire.specs.declared.message.Message.{Message}
use Rattle.cops_wire.specs.Kind.{contents_of}
use Rattle.cops_wire.specs.Grammar.{Grammar, Parts, fields_of}

-- a step, and then another on what it gave
infixl 10 ◌>>=◌
abbrev pub ◌>>=◌ : {A B : Type 0} → Option A → (A → Option B) → Option B
(Some x) >>= f = f x
None >>= f = None

-- the value if the test passes, and nothing otherwise
abbrev pub only_if : {A : Type 0} → Bool → A → Option A
only_if b x = if b then Some x else None

-- Reading a field gives a value and the bytes after it, or fails. First a number.
unfoldable pub number_at : Size → List ℕ → Option (ℕ × List ℕ)
number_at s bytes = let n = byte_len (width s) in if nat_lt (length bytes) n then None else Some (from_be_bytes (width s) (take n bytes), drop n bytes)

-- a number from least to greatest
unfoldable pub number_in_at : Size → ℕ → ℕ → List ℕ → Option (ℕ × List ℕ)
number_in_at s least greatest bytes = number_at s bytes >>= λ n. only_if (nat_le least n.0 && nat_le n.0 greatest) n

-- bytes after their length
unfoldable pub string_at : Size → ℕ → ℕ → List ℕ → Option (List ℕ × List ℕ)
string_at s least greatest bytes = number_in_at s least greatest bytes >>= λ n. only_if (nat_le n.0 (length n.1)) (take n.0 n.1, drop n.0 n.1)

-- a version
unfoldable pub version_at : List ℕ → Option (ℕ × List ℕ)
version_at bytes = number_at u64 bytes >>= λ n. only_if (nat_le 1 (n.0 / 65536) && nat_lt (n.0 % 65536) NODES) n

-- a key and a version
unfoldable pub pair_at : List ℕ → Option (Dep × List ℕ)
pair_at bytes = string_at u8 1 MAX_KEY bytes >>= λ k. version_at k.1 >>= λ v. Some (record { key = k.0; version = v.0 }, v.1)

-- a number of pairs
unfoldable pub pairs_at : ℕ → List ℕ → Option (List Dep × List ℕ)
pairs_at zero bytes = Some ([], bytes)
pairs_at (suc n) bytes = pair_at bytes >>= λ first. pairs_at n first.1 >>= λ others. Some (first.0 ∷ others.0, others.1)

-- whether all pairs are different
abbrev pub are_distinct : List Dep → Bool
are_distinct [] = true
are_distinct (d ∷ ds) = not (list_any (is_same_dep d) ds) && are_distinct ds

-- pairs after their count: at most `most`, all different
unfoldable pub deps_at : ℕ → List ℕ → Option (List Dep × List ℕ)
deps_at most bytes = number_in_at u16 0 most bytes >>= λ n. pairs_at n.0 n.1 >>= λ ds. only_if (are_distinct ds.0) ds

-- adds a content in front of what was read
abbrev pub put_first : Content → Result (List Content × List ℕ) ReadFault → Result (List Content × List ℕ) ReadFault
put_first c (Ok x) = Ok (c ∷ x.0, x.1)
put_first c (Err e) = Err e

-- a value as the content of a field
abbrev pub with_content : {A : Type 0} → (A → Content) → Option (A × List ℕ) → Option (Content × List ℕ)
with_content f read = read >>= λ x. Some (f x.0, x.1)

-- a field of any type
abbrev pub field_at : Field → List ℕ → Option (Content × List ℕ)
field_at (number s) bytes = with_content of_number (number_at s bytes)
field_at (number_in s least greatest) bytes = with_content of_number (number_in_at s least greatest bytes)
field_at (string s least greatest) bytes = with_content of_bytes (string_at s least greatest bytes)
field_at version bytes = with_content of_number (version_at bytes)
field_at (pairs most) bytes = with_content of_pairs (deps_at most bytes)

-- Fields in a row, or the fault at the first that cannot be read, with the number of bytes left there.
abbrev pub then_read : ℕ → Option (Content × List ℕ) → (List ℕ → Result (List Content × List ℕ) ReadFault) → Result (List Content × List ℕ) ReadFault
then_read left None read = Err (faults.BadField left)
then_read left (Some x) read = put_first x.0 (read x.1)

-- fields in a row
abbrev pub fields_at : List Field → List ℕ → Result (List Content × List ℕ) ReadFault
fields_at [] bytes = Ok ([], bytes)
fields_at (f ∷ fs) bytes = then_read (length bytes) (field_at f bytes) (fields_at fs)

-- the fields of a row of the table, if there is one
abbrev pub known_fields_at : Option (List Field) → List ℕ → Result (List Content × List ℕ) ReadFault
known_fields_at None bytes = Err faults.UnknownKind
known_fields_at (Some fs) bytes = fields_at fs bytes

-- the fields of a kind
abbrev pub contents_at : Grammar → ℕ → List ℕ → Result (List Content × List ℕ) ReadFault
contents_at g kind bytes = known_fields_at (fields_of g kind) bytes

-- a frame whose body has this length, and begins with this kind
abbrev pub whole : ℕ → ℕ → Result (List Content × List ℕ) ReadFault → Result (Parts × ℕ) WireFault
whole len kind (Ok (cs, [])) = Ok (record { kind = kind; contents = cs }, 4 + len)
whole len kind (Ok (cs, b ∷ bs)) = Err TrailingBytes
whole len kind (Err faults.UnknownKind) = Err UnknownKind
whole len kind (Err (faults.BadField left)) = Err (BadField (4 + len - left))
whole len kind (Err faults.Memory) = Err Memory

-- decodes a whole body
abbrev pub body_at : Grammar → List ℕ → Result (Parts × ℕ) WireFault
body_at g [] = Err BadLength
body_at g (kind ∷ fields) = whole (suc (length fields)) kind (contents_at g kind fields)

-- what the bytes decode to
unfoldable pub frame_at : Grammar → List ℕ → Result (Parts × ℕ) WireFault
frame_at g bytes =
    let len = from_be_bytes w32 (take 4 bytes) in
    if nat_lt (length bytes) 4 then Err Short
    else if len == 0 || nat_lt g.longest len then Err BadLength
    else if nat_lt (length bytes) (4 + len) then Err Short
    else body_at g (take len (drop 4 bytes))

-- the faults of a length, which are found without reading the body
abbrev pub HasNoBody : WireFault → Type 0
HasNoBody Short = Unit {0}
HasNoBody BadLength = Unit {0}
HasNoBody _ = ⊥

-- whether reading a field here allocates: its first part is read without a fault
abbrev pub takes_at : Field → List ℕ → Bool
takes_at field bytes = takes_memory field && is_some (field_at (first_part field) bytes)

-- Whether reading from left to right comes to a field whose reading allocates: each field before it is read without a fault.
abbrev pub then_comes : Option (Content × List ℕ) → (List ℕ → Bool) → Bool
then_comes None comes = false
then_comes (Some x) comes = comes x.1

abbrev pub comes_to_memory : List Field → List ℕ → Bool
comes_to_memory [] bytes = false
comes_to_memory (f ∷ fs) bytes = takes_at f bytes || then_comes (field_at f bytes) (comes_to_memory fs)

-- whether reading the fields of a kind allocates, if the grammar has the kind
abbrev pub kind_takes : Grammar → ℕ → List ℕ → Bool
kind_takes g kind bytes = comes_to_memory (unwrap_or (fields_of g kind) []) bytes

-- whether reading a whole body allocates
abbrev pub body_takes : Grammar → List ℕ → Bool
body_takes g [] = false
body_takes g (kind ∷ fields) = kind_takes g kind fields

-- A reader of a number returns what the definition gives. It does not allocate.
abbrev pub GivesNumber : {X A : Type 0} → (X → A) → List ℕ → Result X ReadFault → Option A → Type 0
GivesNumber view bytes (Ok x) read = read ≡ Some (view x)
GivesNumber view bytes (Err e) read = (read ≡ None) × (e ≡ faults.BadField (length bytes))

-- A reader of a field returns what the definition gives, unless memory runs out, which happens only if reading the field allocates.
abbrev pub FailsAt : Field → List ℕ → {A : Type 0} → ReadFault → Option A → Type 0
FailsAt field bytes faults.Memory read = IsTrue (takes_at field bytes)
FailsAt field bytes faults.UnknownKind read = ⊥
FailsAt field bytes (faults.BadField left) read = (read ≡ None) × (left ≡ length bytes)

abbrev pub GivesField : {X A : Type 0} → (X → A) → Field → List ℕ → Result X ReadFault → Option A → Type 0
GivesField view field bytes (Ok x) read = read ≡ Some (view x)
GivesField view field bytes (Err e) read = FailsAt field bytes e read

-- Like `GivesField`, where it does not matter at which part reading stopped.
abbrev pub FailsPart : {A : Type 0} → ReadFault → Option A → Type 0
FailsPart faults.Memory read = Unit {0}
FailsPart faults.UnknownKind read = ⊥
FailsPart (faults.BadField left) read = read ≡ None

abbrev pub GivesPart : {X A : Type 0} → (X → A) → Result X ReadFault → Option A → Type 0
GivesPart view (Ok x) read = read ≡ Some (view x)
GivesPart view (Err e) read = FailsPart e read

-- A reader of a message returns what reading the fields of the kind gives. Memory runs out only if reading comes to a field whose reading allocates.
abbrev pub Fails : Grammar → ℕ → List ℕ → ReadFault → Type 0
Fails g kind bytes faults.Memory = IsTrue (kind_takes g kind bytes)
Fails g kind bytes faults.UnknownKind = contents_at g kind bytes ≡ Err faults.UnknownKind
Fails g kind bytes (faults.BadField left) = contents_at g kind bytes ≡ Err (faults.BadField left)

abbrev pub GivesContents : Grammar → ℕ → List ℕ → Result Message ReadFault → List ℕ → Type 0
GivesContents g kind bytes (Ok m) rest = contents_at g kind bytes ≡ Ok (contents_of m, rest)
GivesContents g kind bytes (Err e) rest = Fails g kind bytes e
