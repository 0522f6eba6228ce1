-- The fields whose reading allocates.
use Rattle.std.specs.Prelude.{Bool, true, false}
use Rattle.cops_wire.specs.Field.{Field, u16, number_in, string, pairs}

-- a field whose reading allocates: bytes after their length (a key, a value), or pairs (dependencies)
abbrev pub takes_memory : Field → Bool
takes_memory (string s least greatest) = true
takes_memory (pairs most) = true
takes_memory _ = false

-- the part of a field that is read before it allocates: the count of pairs, and of any other field all of it
abbrev pub first_part : Field → Field
first_part (pairs most) = number_in u16 0 most
first_part field = field
