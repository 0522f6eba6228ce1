use Rattle.std.proofs.Common.{ℕ, max, ◌+◌, ◌∷◌, ◌++◌, [], List, append_assoc, slice_index_or, ap, ◌∙◌, arith}
use Rattle.cops_audit.specs.declared.summaries.Summary.{Summary}
use Rattle.cops_audit.proofs.Listing.{slice_get_there}
use Rattle.cops_audit.proofs.Summarizing.{Summarized, few_places, raised_summary}
use Rattle.cops_audit.proofs.flat.push_session.Goals as goal

pub see_op-seen-requires-clause-named : goal.see_op-seen-requires-clause-named
see_op-seen-requires-clause-named c = slice_get_there (slice_index_or c.args.index.now.history.now.sessions c.args.client []) c.loop-number.number (omega (arith, c.session_len-number-end.ensures.count, c.loop-number-test.true))

pub above-requires : goal.above-requires
above-requires c = omega (arith, few_places c.args.index.now.history.now.sessions c.args.index.now.table.now c.requires.index.table _ c.see_op-seen.result c.see_op-seen.ensures, c.requires.index.table.table.few)

pub loop-number-preserved : goal.loop-number-preserved
loop-number-preserved c =
    let h = c.args.index.now.history.now.sessions in
    let l = c.loop-number in
    let session = l.invariant.summarized.0 in
    let seen = c.see_op-seen in
    let summary : Summary = record { seen = seen.result; mark = c.max-mark.result } in
    let summarized : Summarized h c.args.index.now.table.now c.args.client (session ++ summary ∷ []) (l.number + 1) c.max-mark.result
    = raised_summary h c.args.index.now.table.now c.args.client session l.number l.mark seen.result l.invariant.summarized.1 seen.ensures c.max-mark.result
    (c.max-mark.ensures ∙ ap (λ (k : ℕ). max l.mark k) c.above.ensures) in
    record {
      summarized = (
        session ++ summary ∷ [],
        summarized,
        c.push_reserved.ensures.items ∙ ap (λ (ns : List Summary). ns ++ summary ∷ []) l.invariant.summarized.2 ∙ append_assoc c.args.summaries.now.items session (summary ∷ []),
      );
      capacity = omega (arith, l.invariant.capacity, c.push_reserved.ensures.capacity);
      within = omega (arith, c.session_len-number-end.ensures.count, c.loop-number-test.true);
    }
