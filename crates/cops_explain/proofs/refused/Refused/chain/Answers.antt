use Rattle.std.proofs.Common.{Option, Vec, Global, subst}
use Rattle.std.specs.Prelude.{MatchOption}
use Rattle.cops_types.specs.declared.op.OpName.{OpName}
use Rattle.cops_report.specs.Chains.{HasNoChain, IsFirstChain}
use Rattle.cops_report.proofs.ChainLemmas.{past_chain}
use Rattle.cops_explain.specs.Refused.{history_of}
use Rattle.cops_explain.proofs.refused.Refused.chain.Goals as goal

pub unreachable-requires : goal.unreachable-requires
unreachable-requires c =
    let h = (history_of c.args.self).sessions in
    let newer = c.args.fault.newer in
    let op = c.args.fault.op in
    let names = past_chain h newer op c.requires.stale.is_newer.past in
    let Found : Option (Vec OpName Global) → Type 0 = λ o. MatchOption o (HasNoChain h newer op) (λ v. IsFirstChain h newer op v.items) in
    let none : HasNoChain h newer op = subst Found c.in-None.is c.in_ok-found.ensures in
    none names.0 names.1
