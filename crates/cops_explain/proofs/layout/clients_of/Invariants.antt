use Rattle.std.proofs.Common.{◌≤◌, vec_len}
use Rattle.cops_explain.proofs.layout.clients_of.Given as goal

abbrev pub invariant-loop-column : goal.invariant-loop-column
invariant-loop-column l = vec_len l.clients ≤ l.column-index
