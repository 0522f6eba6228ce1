use Rattle.std.proofs.Common.{map, take}
use Rattle.cops_types.specs.Faults.{IsStale}
use Rattle.cops_audit.specs.Names.{ListsAmong}
use Rattle.cops_audit.specs.Floors.{IsAfter}
use Rattle.cops_audit.proofs.stale.stale_suspects.Given as goal

abbrev pub invariant-loop-k : goal.invariant-loop-k
invariant-loop-k l = record {
  faults : ListsAmong (λ f. f.op) (λ f. IsStale l.analysis.history.now.sessions f.op f.newer) (take l.k (map (λ s. s.op) l.suspects)) l.faults.items;
  after : IsAfter l.analysis.table.now l.analysis.summaries.now l.analysis.firsts.now l.suspects l.floors l.k l.sweep;
}
