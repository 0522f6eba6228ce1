use Rattle.std.proofs.Common.{◌≡◌, option_copied, Some, sym, ap, ◌∙◌}
use Rattle.cops_types.specs.Histories.{Operation, read}
use Rattle.cops_types.specs.OpRefs.{seen}
use Rattle.cops_audit.proofs.Sourcing.{source_stands}
use Rattle.cops_audit.proofs.sources.source_place.Goals as goal

pub returns-then-is_source_of : goal.returns-then-is_source_of
returns-then-is_source_of c = λ op at.
    let r = c.is_source_of.ensures.0 c.if-is_source_of.true in
    let same : Some (seen c.in_ok-got.got) ≡ Some op = c.in_ok-got.ensures ∙ at in
    let both : read c.in-Got.key.now (option_copied c.in-Got.value) c.in-Got.version.now ≡ read r.0 r.1 r.2 = sym (ap seen c.in-Got.is) ∙ r.4 in
    let version : c.in-Got.version.now ≡ r.2 = cc in
    let op_is : op ≡ read r.0 r.1 r.2 = (let s : seen c.in_ok-got.got ≡ op = cc in sym s ∙ r.4) in
    source_stands c.args.history.now.sessions c.args.table.now op c.in_ok-place.place c.index-table-place.result c.in_ok-place.ensures.inside
    r.0 r.1 r.2 (c.in_ok-place.ensures.found c.index-table-place.result ∙ version) (sym c.in_ok-put.ensures.operation ∙ ap (λ (o : Operation). Some o) r.3) op_is
