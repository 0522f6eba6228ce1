use Rattle.std.proofs.Common.{◌≡◌, ◌+◌, ◌≤◌, ◌++◌, length}
use Rattle.cops_import.specs.Lines.{lines}
use Rattle.cops_check.specs.Numbers.{numbers_from}
use Rattle.cops_check.proofs.numbers.line_numbers.Given as goal

abbrev pub invariant-loop-line : goal.invariant-loop-line
invariant-loop-line l = record {
  whole : l.numbers.items ++ numbers_from l.number (lines l.rest) ≡ numbers_from 1 (lines l.fn.bytes);
  counted : l.number + length l.rest ≤ 1 + length l.fn.bytes;
}

abbrev pub decreases-loop-line : goal.decreases-loop-line
decreases-loop-line l = length l.rest
