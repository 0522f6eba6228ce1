use Rattle.std.proofs.Common.{◌≡◌, ◌<◌, ◌+◌, ◌++◌, ◌∷◌, [], List, length, length-append, map, arith, ap, sym, subst}
use Rattle.std.proofs.lemmas.List.Sums.{sum_by_more}
use Rattle.cops_types.specs.Histories.{Operation}
use Rattle.cops_audit.specs.declared.summaries.Summary.{Summary}
use Rattle.cops_audit.specs.Summaries.{AreSummarized, span_of}
use Rattle.cops_audit.proofs.Flattening.{sessions_more, within_more}
use Rattle.cops_audit.proofs.Summarizing.{summarized_joined, summarized_one}
use Rattle.cops_audit.proofs.flat.FlatSummaries.fill.Goals as goal

pub loop-client-preserved : goal.loop-client-preserved
loop-client-preserved c =
    let h = c.args.index.now.history.now.sessions in
    let table = c.args.index.now.table.now in
    let k = c.loop-client.client in
    let l = c.loop-client.invariant in
    let summaries = c.loop-client.self-inside.summaries.items in
    let spans = c.loop-client.self-inside.spans.items in
    let session = c.push_session.ensures.summaries.0 in
    let summarized = c.push_session.ensures.summaries.1 in
    let items = c.push_session.ensures.summaries.2 in
    let from = c.len-from.result in
    let to = c.len-to.result in
    let less : k < length h = omega (arith, c.loop-client-test.true, c.min-end.ensures, c.requires.end) in
    let starts : length summaries ≡ from = omega (arith, c.len-from.ensures, c.loop-client.self-inside.summaries.ok.0) in
    let ends : length (summaries ++ session) ≡ to = omega (arith, c.len-to.ensures, c.push_session.new.summaries.ok.0, ap length items) in
    rw (c.push_reserved.ensures.items, items)
    record {
      within = within_more summaries session spans from to starts ends l.within;
      total = omega (arith, l.total, length-append summaries session, summarized.whole, sum_by_more (length {A = Operation}) h k [] less);
      summarized = subst (λ (ls : List (List Summary)). AreSummarized h table c.args.first (k + 1) ls) (sym (sessions_more summaries session spans from to starts ends l.within))
          (summarized_joined h table c.args.first k (k + 1) (map (span_of summaries) spans) (session ∷ []) l.summarized (summarized_one h table k session summarized));
      summary_room = omega (arith, l.summary_room, c.push_session.ensures.capacity);
      session_room = omega (arith, l.session_room, c.push_reserved.ensures.capacity);
    }
