use Rattle.std.proofs.Common.{◌≡◌, ◌+◌, All, length, map, take}
use Rattle.std.specs.Prelude.{sum_by, vec_capacity}
use Rattle.cops_audit.specs.Summaries.{AreSummarized, IsWithin, span_of}
use Rattle.cops_audit.proofs.flat.FlatSummaries.fill.Given as goal

abbrev pub invariant-loop-client : goal.invariant-loop-client
invariant-loop-client l = record {
  within : All (IsWithin l.self-inside.summaries.items) l.self-inside.spans.items;
  total : sum_by length (take l.first l.index.history.now.sessions) + length l.self-inside.summaries.items ≡ sum_by length (take l.client l.index.history.now.sessions);
  summarized : AreSummarized l.index.history.now.sessions l.index.table.now l.first l.client (map (span_of l.self-inside.summaries.items) l.self-inside.spans.items);
  summary_room : vec_capacity l.self-inside.summaries ≡ l.fn.self.summary_room;
  session_room : vec_capacity l.self-inside.spans ≡ l.fn.self.session_room;
}
