use Rattle.std.proofs.Common.{◌≡◌, ◌+◌, ◌≤◌, ◌++◌, drop}
use Rattle.std.specs.Prelude.{string_bytes}
use Rattle.cops_import.specs.Words.{own_lines}
use Rattle.cops_import.proofs.imported.push_own_lines.Given as goal

abbrev pub invariant-loop-outcome : goal.invariant-loop-outcome
invariant-loop-outcome l = record {
  whole : string_bytes l.text ++ own_lines l.number (drop l.outcome-index l.fn.unknown) ≡ string_bytes l.fn.text ++ own_lines l.fn.first l.fn.unknown;
  few : l.number ≤ l.fn.first + l.outcome-index;
}
