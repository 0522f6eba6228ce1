use Rattle.std.proofs.Common.{ℕ, ◌<◌, ◌+◌, get_or}
use Rattle.cops_types.specs.declared.versioned_put.VersionedPut.{VersionedPut}
use Rattle.cops_audit.proofs.table.is_rising.Given as goal

-- each put so far is below the next
abbrev pub invariant-loop-k : goal.invariant-loop-k
invariant-loop-k l = (j : ℕ) (d : VersionedPut) → j + 1 < l.k → (get_or l.table j d).version < (get_or l.table (j + 1) d).version
