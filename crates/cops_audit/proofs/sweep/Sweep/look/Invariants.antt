use Rattle.std.proofs.Common.{◌≤◌, ℕ, map, length}
use Rattle.cops_audit.specs.Sweeps.{Grows, HasRoom, InRange, IsSweeping, work_left}
use Rattle.cops_audit.proofs.sweep.Sweep.look.Given as goal

abbrev pub invariant-loop-index : goal.invariant-loop-index
invariant-loop-index l = record {
  sweeping : IsSweeping l.analysis.table.now l.analysis.summaries.now l.analysis.firsts.now l.floor l.self (InRange (record { client = l.range.client; from = l.range.from; to = l.index }));
  grows : Grows l.analysis.table.now l.analysis.summaries.now l.fn.self l.self;
  work : work_left l.self ≤ work_left l.fn.self;
  room : (space : ℕ) → HasRoom space (map length l.analysis.summaries.now) l.fn.self → HasRoom space (map length l.analysis.summaries.now) l.self;
}
