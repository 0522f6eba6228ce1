use Rattle.std.proofs.Common.{◌≡◌, ◌++◌, take}
use Rattle.std.specs.Prelude.{string_bytes}
use Rattle.cops_explain.specs.Naming.{named_of}
use Rattle.cops_explain.specs.Operations.{reported_lines}
use Rattle.cops_explain.proofs.operation.push_lines.Given as goal

abbrev pub invariant-loop-name : goal.invariant-loop-name
invariant-loop-name l = string_bytes l.out ≡ string_bytes l.fn.out ++ reported_lines (named_of l.named) (take l.name-index l.names)
