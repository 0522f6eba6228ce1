use Rattle.std.proofs.Common.{ℕ, ◌<◌, slice_index_or}
use Rattle.cops_types.specs.declared.put_record.PutRecord.{PutRecord}
use Rattle.cops_tie.specs.Runs.{IsEverywhere}
use Rattle.cops_tie.proofs.settling.is_converged.Given as goal

abbrev pub invariant-loop-place : goal.invariant-loop-place
invariant-loop-place l = (k : ℕ) (d : PutRecord) → k < l.place → IsEverywhere l.world.setting l.world.world (slice_index_or l.world.world.issued k d)
