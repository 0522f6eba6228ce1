use Rattle.std.proofs.Common.{◌+◌, ◌-◌, IfOk, arith, subst, sym}
use Rattle.std.proofs.lemmas.List.{take_all}
use Rattle.cops_types.specs.declared.op.OpName.{OpName}
use Rattle.cops_types.specs.Faults.{HasNoSource, IsNotAbove}
use Rattle.cops_types.specs.Verdicts.{AllAbove, AllHaveSources}
use Rattle.cops_audit.specs.Names.{ListsAmong}
use Rattle.cops_audit.specs.Ordered.{IsOrderedVerdict}
use Rattle.cops_audit.specs.declared.verdict.NotAbove.{NotAbove}
use Rattle.cops_audit.proofs.judging.classify_gets.Goals as goal

pub verdict_before_stale-requires-clause-sourceless : goal.verdict_before_stale-requires-clause-sourceless
verdict_before_stale-requires-clause-sourceless c =
    let p = c.args.puts in
    subst (λ ns. ListsAmong {A = OpName} (λ n. n) (HasNoSource p.sessions) ns c.in_ok-sourceless.sourceless.items) (take_all (0 + c.count-count.result - 0) p.names (omega (arith, c.count-count.ensures.count))) c.in_ok-sourceless.ensures

pub verdict_before_stale-requires-clause-not_above : goal.verdict_before_stale-requires-clause-not_above
verdict_before_stale-requires-clause-not_above c =
    let p = c.args.puts in
    subst (λ ns. ListsAmong {A = NotAbove} (λ f. f.op) (λ f. IsNotAbove p.sessions f.op f.earlier) ns c.in_ok-not_above.not_above.items) (take_all (0 + c.count-count.result - 0) p.names (omega (arith, c.count-count.ensures.count))) c.in_ok-not_above.ensures

pub classify_stale-requires-clause-sources : goal.classify_stale-requires-clause-sources
classify_stale-requires-clause-sources c = subst AllHaveSources (sym c.in_ok-tables.ensures.sessions) c.in_default.ensures.sources

pub classify_stale-requires-clause-above : goal.classify_stale-requires-clause-above
classify_stale-requires-clause-above c = subst AllAbove (sym c.in_ok-tables.ensures.sessions) c.in_default.ensures.above

pub returns : goal.returns
returns c = subst (λ h. IfOk c.classify_stale.result (IsOrderedVerdict h)) c.in_ok-tables.ensures.sessions c.classify_stale.ensures
