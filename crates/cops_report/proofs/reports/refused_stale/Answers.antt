use Rattle.std.proofs.Common.{get_or, inl, length}
use Rattle.std.proofs.lemmas.List.Elements.{Contains-get_or}
use Rattle.cops_types.specs.Counts.{count_of, put_count}
use Rattle.cops_audit.specs.declared.verdict.Stale.{Stale}
use Rattle.cops_report.specs.Chains.{HasNoChain}
use Rattle.cops_report.specs.Reports.{refused_line}
use Rattle.cops_report.proofs.ChainLemmas.{past_chain}
use Rattle.cops_report.proofs.StaleLemmas.{stale_more}
use Rattle.cops_report.proofs.reports.refused_stale.Goals as goal

abbrev first : Stale
first = record { op = record { client = 0; index = 0 }; newer = record { client = 0; index = 0 } }

pub unreachable-requires : goal.unreachable-requires
unreachable-requires c =
    let h = c.args.history.now.sessions in
    let fault = get_or c.args.faults.now c.loop-fault.fault-index first in
    let stale = c.requires.faults fault (Contains-get_or c.args.faults.now c.loop-fault.fault-index first c.loop-fault-test.true) in
    let chain = past_chain h fault.newer fault.op stale.is_newer.past in
    let none : HasNoChain h fault.newer fault.op = rw c.in_default.is at c.in_ok-found.ensures in none chain.0 chain.1

pub stale-requires : goal.stale-requires
stale-requires c =
    let stale = c.requires.faults _ (Contains-get_or c.args.faults.now c.loop-fault.fault-index first c.loop-fault-test.true) in
    (stale.version, inl (stale.is_newer.key, stale.is_newer.put.0, stale.is_newer.put.1))

pub loop-fault-preserved : goal.loop-fault-preserved
loop-fault-preserved c =
    let h = c.args.history.now.sessions in
    stale_more h c.args.faults.now c.loop-fault.fault-index first c.in-Some.names.items (refused_line (count_of h) (put_count h) (length c.args.faults.now)) _ _ c.loop-fault-test.true
    c.loop-fault.invariant (rw c.in-Some.is at c.in_ok-found.ensures) (rw c.deref.ensures.value at c.in_ok-stale.ensures)
