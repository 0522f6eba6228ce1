use Rattle.std.proofs.Common.{◌≡◌, length}
use Rattle.cops_audit.proofs.Doubling.{ReportBelow}
use Rattle.cops_audit.proofs.table.doubled_numbers.Given as goal

abbrev pub invariant-loop-k : goal.invariant-loop-k
invariant-loop-k l = record {
  len : length l.are_doubled.items ≡ length l.history.puts;
  report : ReportBelow l.history.puts l.puts.items l.k l.are_doubled.items;
}
