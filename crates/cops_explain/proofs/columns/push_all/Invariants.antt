use Rattle.std.proofs.Common.{◌≡◌, ◌+◌, vec_len}
use Rattle.cops_explain.proofs.columns.push_all.Given as goal

abbrev pub invariant-loop-name : goal.invariant-loop-name
invariant-loop-name l = vec_len l.columns ≡ vec_len l.fn.columns + l.name-index
