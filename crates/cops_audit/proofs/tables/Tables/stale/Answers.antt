use Rattle.std.proofs.Common.{◌+◌, IfOk, subst, sym, AllPairs, slice_range}
use Rattle.cops_types.specs.Faults.{IsBefore}
use Rattle.cops_types.specs.Verdicts.{AllAbove, AllHaveSources}
use Rattle.cops_audit.specs.Names.{ListsStale, names_of}
use Rattle.cops_audit.specs.Summaries.{IsSummarized}
use Rattle.cops_audit.specs.Summarized.{Summarized}
use Rattle.cops_audit.proofs.Bridging.{is_analysis}
use Rattle.cops_audit.proofs.Classes.{sourced_wait}
use Rattle.cops_audit.proofs.Ranges.{range_in_order}
use Rattle.cops_audit.proofs.tables.Tables.stale.Goals as goal

pub stale_among-requires-clause-analysis : goal.stale_among-requires-clause-analysis
stale_among-requires-clause-analysis c =
    let h = c.self.inside.history.now.sessions in
    let table = c.self.inside.table.items in
    let are = c.self.invariant.0 in
    is_analysis _ table c.self.inside.keys c.as_slice.ensures.value c.as_slice-2.ensures.value c.as_slice-3.ensures.value c.as_slice-4.ensures.value
    are.puts (subst (IsSummarized h table) (sym c.look-summaries.ensures) are.summaries) c.self.invariant.1
    (sourced_wait h (subst (λ (t : Summarized). AllHaveSources t.sessions) (sym c.self.view_is) c.requires.sources))
    (subst (λ (t : Summarized). AllAbove t.sessions) (sym c.self.view_is) c.requires.above) are.limits

pub stale_among-requires-clause-in_order : goal.stale_among-requires-clause-in_order
stale_among-requires-clause-in_order c = subst (AllPairs IsBefore) (sym c.range.ensures) (range_in_order (names_of c.self.inside.history.now.sessions) c.args.start (c.args.start + c.args.len) c.self.invariant.0.names.in_order)

pub returns : goal.returns
returns c =
    subst (λ (t : Summarized). IfOk c.stale_among.result (λ v. ListsStale t.sessions (slice_range t.names c.args.start (c.args.start + c.args.len)) v.items)) c.self.view_is
    (subst (λ ns. IfOk c.stale_among.result (λ v. ListsStale c.self.inside.history.now.sessions ns v.items)) c.range.ensures c.stale_among.ensures)
