use Rattle.std.proofs.Common.{◌≡◌, ◌++◌, take}
use Rattle.std.specs.Prelude.{string_bytes}
use Rattle.cops_wire.specs.Shown.{bytes_text}
use Rattle.cops_wire.proofs.showing.show_bytes.Given as goal

abbrev pub invariant-loop-byte : goal.invariant-loop-byte
invariant-loop-byte l = string_bytes l.line ≡ string_bytes l.fn.line ++ bytes_text (take l.byte-index l.bytes)
