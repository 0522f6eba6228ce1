use Rattle.std.proofs.Common.{refl, subst, sym}
use Rattle.cops_audit.specs.Summaries.{IsSummarized}
use Rattle.cops_audit.proofs.Summarizing.{summarized_all, summarized_joined}
use Rattle.cops_audit.proofs.flat.Halves.by_one.Goals as goal

pub returns : goal.returns
returns c =
    let h = c.args.index.now.history.now.sessions in
    let table = c.args.index.now.table.now in
    let clients = c.clients-clients.result in
    let whole = summarized_joined h table 0 clients clients c.in_ok-low.low.sessions c.in_ok-high.high.sessions c.in_ok-low.ensures c.in_ok-high.ensures in
    subst (IsSummarized h table) (sym c.of.ensures) (summarized_all h table 0 clients _ refl c.clients-clients.ensures.count whole)
