use Rattle.std.proofs.Common.{◌≡◌, ◌++◌, drop, map}
use Rattle.cops_cluster.specs.Close.{made_by}
use Rattle.cops_cluster.specs.Differing.{shown}
use Rattle.cops_cluster.proofs.differing.kept_in.Given as goal

abbrev pub invariant-loop-n : goal.invariant-loop-n
invariant-loop-n l = made_by l.places 0 l.books ≡ map shown l.all.items ++ made_by l.places l.n (drop l.n l.books)
