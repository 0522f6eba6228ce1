use Rattle.std.proofs.Common.{ℕ, ◌<◌, [], slice_index_or}
use Rattle.cops_types.specs.Histories.{Operation}
use Rattle.cops_scenario.specs.declared.script.ScriptOp.{ScriptOp}
use Rattle.cops_tie.specs.Outcomes.{IsSeenAs}
use Rattle.cops_tie.proofs.ending.is_prefix_of.Given as goal

abbrev pub invariant-loop-n : goal.invariant-loop-n
invariant-loop-n l = (k : ℕ) (d : ScriptOp) (e : Operation) → k < l.n → IsSeenAs (slice_index_or l.script k d) (slice_index_or (slice_index_or l.history.sessions l.client []) k e)
