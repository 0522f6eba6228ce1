use Rattle.std.proofs.Common.{◌≡◌, take}
use Rattle.cops_run_command.specs.Lines.{outcome_lines}
use Rattle.cops_run_command.proofs.events.lines.Given as goal

abbrev pub invariant-loop-n : goal.invariant-loop-n
invariant-loop-n l = l.text.items ≡ outcome_lines (take l.n l.outcomes)
