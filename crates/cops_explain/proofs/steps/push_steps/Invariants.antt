use Rattle.std.proofs.Common.{◌≡◌, ◌++◌, drop}
use Rattle.std.specs.Prelude.{string_bytes}
use Rattle.cops_explain.specs.Naming.{named_of}
use Rattle.cops_explain.specs.Steps.{step_lines}
use Rattle.cops_explain.proofs.steps.push_steps.Given as goal

abbrev pub invariant-loop-name : goal.invariant-loop-name
invariant-loop-name l =
    string_bytes l.fn.out ++ step_lines (named_of l.named) l.fn.from l.names ≡ string_bytes l.out ++ step_lines (named_of l.named) l.from (drop l.name-index l.names)
