-- The greatest lengths of messages.
use Rattle.std.specs.Prelude.{ℕ, ◌<◌, ◌^◌, ◌+◌, ◌*◌, List, [], ◌∷◌, Bool, true, ◌&&◌, nat_le, IsTrue}
use Rattle.std.specs.Int.{byte_len}
use Rattle.cops_wire.specs.Field.{Field, width, number, number_in, string, version, pairs}
use Rattle.cops_wire.specs.Grammar.{Grammar}

-- the most bytes of a field's encoding
abbrev pub most_len : Field → ℕ
most_len (number s) = byte_len (width s)
most_len (number_in s least greatest) = byte_len (width s)
most_len (string s least greatest) = byte_len (width s) + greatest
most_len version = 8
most_len (pairs most) = 2 + most * 73

-- the most bytes of fields in a row
abbrev pub most_len_all : List Field → ℕ
most_len_all [] = 0
most_len_all (f ∷ fs) = most_len f + most_len_all fs

-- each message fits into a frame
abbrev pub all_fit : ℕ → List (ℕ × List Field) → Bool
all_fit longest [] = true
all_fit longest (row ∷ rows) = nat_le (1 + most_len_all row.1) longest && all_fit longest rows

-- a grammar whose messages all fit their frames
abbrev pub IsGrammar : Grammar → Type 0
IsGrammar g = (g.longest < 2 ^ 32) × IsTrue (all_fit g.longest g.kinds)
