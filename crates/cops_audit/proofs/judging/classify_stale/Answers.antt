use Rattle.std.proofs.Common.{◌+◌, ◌-◌, subst, arith}
use Rattle.std.proofs.lemmas.List.{take_all}
use Rattle.cops_types.specs.Faults.{IsStale}
use Rattle.cops_audit.specs.Names.{ListsAmong}
use Rattle.cops_audit.specs.declared.verdict.Stale.{Stale}
use Rattle.cops_audit.proofs.judging.classify_stale.Goals as goal

pub verdict-requires-clause-stale : goal.verdict-requires-clause-stale
verdict-requires-clause-stale c =
    let t = c.args.tables in
    subst (λ ns. ListsAmong {A = Stale} (λ f. f.op) (λ f. IsStale t.sessions f.op f.newer) ns c.in_ok-stale.stale.items) (take_all (0 + c.count-count.result - 0) t.names (omega (arith, c.count-count.ensures.count))) c.in_ok-stale.ensures
