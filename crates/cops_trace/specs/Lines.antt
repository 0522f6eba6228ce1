-- The printed line of a trace's fault.
use Rattle.std.specs.Prelude.{ℕ, List, [], codes, decimal, Option, Some, None, option_map}
use Rattle.cops_types.specs.Texts.{◌⧺◌}
use Rattle.cops_wire.specs.declared.fault.WireFault.{WireFault}
use Rattle.cops_wire.specs.declared.fault.WireFault.TheVariants as wire
use Rattle.cops_trace.specs.declared.fault.TraceFault.{TraceFault}
use Rattle.cops_trace.specs.declared.fault.TraceFault.TheVariants.{Memory, NoHead, BadFormat, ClientOutOfRange, IndexOutOfTurn, BadCount, BytesAfterEnd, Cut, Frame, ReadFailed, TooLong, NotARecord}

abbrev pub wire_words : WireFault → Option (List ℕ)
wire_words wire.Memory = None
wire_words wire.Short = None
wire_words wire.BadLength = Some (codes "bad length")
wire_words wire.UnknownKind = Some (codes "unknown kind")
wire_words (wire.BadField offset) = Some (codes "bad field")
wire_words wire.TrailingBytes = Some (codes "trailing bytes")

-- the words of a fault, and its offset
abbrev pub words : TraceFault → Option (List ℕ × ℕ)
words Memory = None
words (NoHead offset) = Some (codes "no head", offset)
words (BadFormat offset) = Some (codes "bad format", offset)
words (ClientOutOfRange offset) = Some (codes "client out of range", offset)
words (IndexOutOfTurn offset) = Some (codes "index out of turn", offset)
words (BadCount offset) = Some (codes "bad count", offset)
words (BytesAfterEnd offset) = Some (codes "bytes after end", offset)
words (Cut offset) = Some (codes "cut", offset)
words (Frame e offset) = option_map (λ text. (text, offset)) (wire_words e)
words ReadFailed = None
words (TooLong offset) = Some (codes "too long", offset)
words (NotARecord offset) = Some (codes "not a record", offset)

-- what is wrong, and where
abbrev pub place_text : List ℕ → ℕ → List ℕ
place_text text offset = text ⧺ codes " at " ⧺ decimal offset

-- what is wrong and where, or nothing for a fault that is not the input's
abbrev pub fault_text : TraceFault → Option (List ℕ)
fault_text e = option_map (λ p. place_text p.0 p.1) (words e)

abbrev pub line_of : Option (List ℕ) → List ℕ
line_of None = []
line_of (Some text) = codes "faulty: " ⧺ text ⧺ codes "\n"

-- the line, or nothing for a fault that is not the input's
abbrev pub fault_line : TraceFault → List ℕ
fault_line e = line_of (fault_text e)
