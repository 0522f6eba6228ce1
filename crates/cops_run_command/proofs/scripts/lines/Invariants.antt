use Rattle.std.proofs.Common.{◌≡◌, take}
use Rattle.cops_run_command.specs.Lines.{client_lines}
use Rattle.cops_run_command.proofs.scripts.lines.Given as goal

abbrev pub invariant-loop-n : goal.invariant-loop-n
invariant-loop-n l = l.text.items ≡ client_lines (take l.n l.outcomes)
