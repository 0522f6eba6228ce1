use Rattle.std.proofs.Common.{◌≡◌, ◌++◌, drop}
use Rattle.std.specs.Prelude.{string_bytes}
use Rattle.cops_import.specs.Words.{client_lines}
use Rattle.cops_import.proofs.imported.client_lines.Given as goal

-- the lines so far, followed by those of the remaining names, are the lines of all names
abbrev pub invariant-loop-number : goal.invariant-loop-number
invariant-loop-number l = string_bytes l.text ++ client_lines l.number (drop l.number l.names) ≡ client_lines 0 l.names
