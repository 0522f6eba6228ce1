use Rattle.std.proofs.Common.{◌≡◌, ◌≤◌, ◌<◌, ℕ, slice_index_or}
use Rattle.cops_cluster.specs.Differing.{shown}
use Rattle.cops_cluster.proofs.differing.bring.Given as goal

abbrev pub invariant-loop-j : goal.invariant-loop-j
invariant-loop-j l = record {
  same : l.heard ≡ l.fn.heard;
  passed : (k : ℕ) → l.i ≤ k → k < l.j → shown (slice_index_or l.heard k l.logged) ≡ shown l.logged → ⊥;
}
