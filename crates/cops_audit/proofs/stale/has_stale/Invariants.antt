use Rattle.std.proofs.Common.{◌<◌, ℕ, get_or, map, length}
use Rattle.cops_types.specs.declared.op.OpName.{OpName}
use Rattle.cops_types.specs.Faults.{IsNewer}
use Rattle.cops_audit.specs.declared.window.Suspect.{Suspect}
use Rattle.cops_audit.specs.Sweeps.{HasRoom}
use Rattle.cops_audit.specs.Floors.{IsAfter}
use Rattle.cops_audit.proofs.stale.has_stale.Given as goal

abbrev pub invariant-loop-k : goal.invariant-loop-k
invariant-loop-k l = record {
  none : (j : ℕ) (d : Suspect) → j < l.k → (newer : OpName) (version : ℕ) → ¬ IsNewer l.analysis.history.now.sessions (get_or l.suspects j d).op newer version;
  after : IsAfter l.analysis.table.now l.analysis.summaries.now l.analysis.firsts.now l.suspects l.floors l.k l.sweep;
  room : (space : ℕ) → HasRoom space (map length l.analysis.summaries.now) l.fn.sweep → HasRoom space (map length l.analysis.summaries.now) l.sweep;
}
