use Rattle.std.proofs.Common.{◌≡◌, ℕ, ◌<◌, true}
use Rattle.cops_store.specs.Store.{has_pair}
use Rattle.cops_node.specs.Node.{put_pair}
use Rattle.cops_core.specs.World.{settled_in}
use Rattle.cops_tie.proofs.settling.is_everywhere.Given as goal

abbrev pub invariant-loop-dc : goal.invariant-loop-dc
invariant-loop-dc l = (k : ℕ) → k < l.dc → has_pair (settled_in l.world.world k) (put_pair l.put) ≡ true
