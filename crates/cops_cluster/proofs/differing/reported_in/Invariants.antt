use Rattle.std.proofs.Common.{◌≡◌, ◌++◌, drop, map}
use Rattle.cops_cluster.specs.Close.{reported}
use Rattle.cops_cluster.specs.Differing.{shown}
use Rattle.cops_cluster.proofs.differing.reported_in.Given as goal

abbrev pub invariant-loop-share : goal.invariant-loop-share
invariant-loop-share l = reported l.shares ≡ map shown l.all.items ++ reported (drop l.share-index l.shares)
