use Rattle.std.proofs.Common.{◌≡◌, ◌++◌, drop, map}
use Rattle.cops_cluster.specs.Close.{made_in}
use Rattle.cops_cluster.specs.Differing.{shown}
use Rattle.cops_cluster.proofs.differing.listed_in.Given as goal

abbrev pub invariant-loop-n : goal.invariant-loop-n
invariant-loop-n l = made_in l.places 0 l.lists ≡ map shown l.all.items ++ made_in l.places l.n (drop l.n l.lists)
