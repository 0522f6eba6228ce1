use Rattle.std.proofs.Common.{◌≡◌, ◌≤◌, ℕ, List, Some, None, length, slice_get, slice_index_or}
use Rattle.std.specs.Prelude.{vec_capacity}
use Rattle.cops_audit.specs.Keys.{IsFirstFrom, LinksTo}
use Rattle.cops_audit.proofs.keys.link.Given as goal

abbrev pub invariant-loop-place : goal.invariant-loop-place
invariant-loop-place l = record {
  whole : length l.nexts.items ≡ length l.table;
  width : length l.firsts.items ≡ length l.history.keys;
  nexts : (t next : ℕ) → l.place ≤ t → slice_get l.nexts.items t ≡ Some next → LinksTo l.history.sessions l.table t next;
  firsts : (number : ℕ) (key : List ℕ) → slice_get l.history.keys number ≡ Some key → IsFirstFrom l.history.sessions l.table l.place key (slice_index_or l.firsts.items number None);
  nexts_capacity : vec_capacity l.fn.nexts ≤ vec_capacity l.nexts;
  firsts_capacity : vec_capacity l.fn.firsts ≤ vec_capacity l.firsts;
}
