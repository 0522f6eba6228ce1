use Rattle.std.proofs.Common.{◌/◌, IfOk, refl, subst, sym}
use Rattle.cops_audit.specs.Summaries.{AreSummarized, IsSummarized}
use Rattle.cops_audit.proofs.Summarizing.{summarized_all, summarized_joined}
use Rattle.cops_audit.proofs.parallel.summaries_in_halves.Goals as goal

pub returns : goal.returns
returns g c =
    let h = c.args.index.now.history.now.sessions in
    let table = c.args.index.now.table.now in
    let clients = c.clients-clients.result in
    let mid = clients / 2 in
    let low : AreSummarized h table 0 mid c.in_ok-low.field-0.sessions = subst (λ r. IfOk r (λ f. AreSummarized h table 0 mid f.sessions)) c.in_ok-low.was c.join-low.ensures.first in
    let high : AreSummarized h table mid clients c.in_ok-high.field-0.sessions = subst (λ r. IfOk r (λ f. AreSummarized h table mid clients f.sessions)) c.in_ok-high.was c.join-low.ensures.second in
    let whole = summarized_joined h table 0 mid clients c.in_ok-low.field-0.sessions c.in_ok-high.field-0.sessions low high in
    subst (IsSummarized h table) (sym c.of.ensures) (summarized_all h table 0 clients _ refl c.clients-clients.ensures.count whole)
