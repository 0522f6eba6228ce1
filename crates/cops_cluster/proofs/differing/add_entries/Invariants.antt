use Rattle.std.proofs.Common.{◌≡◌, ◌++◌, take, map}
use Rattle.cops_cluster.specs.Shares.{made}
use Rattle.cops_cluster.specs.Differing.{shown}
use Rattle.cops_cluster.proofs.differing.add_entries.Given as goal

abbrev pub invariant-loop-entry : goal.invariant-loop-entry
invariant-loop-entry l = map shown l.all.items ≡ map shown l.fn.all.items ++ map (made l.node) (take l.entry-index l.entries)
