use Rattle.std.proofs.Common.{◌≡◌, ◌++◌, take}
use Rattle.std.specs.Prelude.{string_bytes}
use Rattle.std.specs.List.{flat_map}
use Rattle.cops_wire.specs.Lines.{named_text}
use Rattle.cops_wire.proofs.showing.line.Given as goal

abbrev pub invariant-loop-named : goal.invariant-loop-named
invariant-loop-named l = string_bytes l.line ≡ l.kind ++ flat_map named_text (take l.named-index l.fields)
