use Rattle.std.proofs.Common.{◌≡◌, ◌≤◌, ◌++◌, List, [], length, slice_index_or}
use Rattle.std.specs.Prelude.{vec_capacity}
use Rattle.cops_audit.specs.declared.summaries.Summary.{Summary}
use Rattle.cops_audit.proofs.Summarizing.{Summarized}
use Rattle.cops_audit.proofs.flat.push_session.Given as goal

abbrev pub invariant-loop-number : goal.invariant-loop-number
invariant-loop-number l = record {
  summarized : (session : List Summary) × Summarized l.index.history.now.sessions l.index.table.now l.client session l.number l.mark × (l.summaries.items ≡ l.fn.summaries.items ++ session);
  capacity : vec_capacity l.summaries ≡ vec_capacity l.fn.summaries;
  within : l.number ≤ length (slice_index_or l.index.history.now.sessions l.client []);
}
