use Rattle.std.proofs.Common.{◌≡◌, ◌++◌, drop}
use Rattle.cops_node.specs.Book.{puts_in}
use Rattle.cops_node.proofs.recorded.puts_of.Given as goal

abbrev pub invariant-loop-entry : goal.invariant-loop-entry
invariant-loop-entry l = puts_in l.entries ≡ l.puts.items ++ puts_in (drop l.entry-index l.entries)
