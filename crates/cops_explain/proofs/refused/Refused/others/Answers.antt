use Rattle.cops_explain.specs.Refused.{history_of}
use Rattle.cops_explain.proofs.OtherLemmas.{listed}
use Rattle.cops_explain.proofs.refused.Refused.others.Goals as goal

pub returns : goal.returns
returns c =
    listed (history_of c.args.self).sessions c.args.name c.in_ok-names.names.items c.sort_unstable.new.self.items c.dedup.new.self.items c.in_ok-names.ensures
    c.sort_unstable.ensures.permutation c.sort_unstable.ensures.sorted c.dedup.ensures.filtered
