use Rattle.std.proofs.Common.{ℕ, map, length}
use Rattle.cops_audit.specs.Sweeps.{Grows, HasRoom, IsSweeping, work_left}
use Rattle.cops_audit.proofs.sweep.Sweep.drain.Given as goal

abbrev pub invariant-loop-range : goal.invariant-loop-range
invariant-loop-range l = record {
  sweeping : IsSweeping l.analysis.table.now l.analysis.summaries.now l.analysis.firsts.now l.floor l.self (λ _. ⊥);
  grows : Grows l.analysis.table.now l.analysis.summaries.now l.fn.self l.self;
  room : (space : ℕ) → HasRoom space (map length l.analysis.summaries.now) l.fn.self → HasRoom space (map length l.analysis.summaries.now) l.self;
}

abbrev pub decreases-loop-range : goal.decreases-loop-range
decreases-loop-range l = work_left l.self
