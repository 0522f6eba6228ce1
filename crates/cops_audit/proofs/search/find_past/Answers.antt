use Rattle.cops_audit.proofs.Finding.{begun, begun_past, found_past, is_past}
use Rattle.cops_audit.proofs.search.find_past.Goals as goal

pub look_at_all-requires-clause-searching : goal.look_at_all-requires-clause-searching
look_at_all-requires-clause-searching c = begun c.args.history.now.sessions c.args.op _ c.in_ok-search.search c.raise.new.self c.take_sources.new.search c.in_ok-search.ensures c.clients.ensures.count c.in_ok-raise.ensures.raises c.in_ok-take_sources.ensures.takes

pub returns : goal.returns
returns c =
    let h = c.args.history.now.sessions in
    let kept = c.in_ok-look_at_all.ensures.finds.kept in
    is_past h c.args.op c.look_at_all.new.search c.in_ok-look_at_all.ensures.searching c.in_ok-look_at_all.ensures.empty c.in_ok-counts.counts.items c.in_ok-counts.ensures
    (λ n client less. kept n (c.in_ok-take_sources.ensures.takes.kept n (c.in_ok-raise.ensures.raises.raised n client less)))
    (λ put s. kept put (c.in_ok-take_sources.ensures.sources put s))
    (found_past h c.args.op c.take_sources.new.search c.look_at_all.new.search c.in_ok-look_at_all.ensures.finds
    (begun_past h c.args.op _ c.in_ok-search.search c.raise.new.self c.take_sources.new.search c.in_ok-search.ensures c.requires c.in_ok-raise.ensures.raises c.in_ok-take_sources.ensures.takes))
