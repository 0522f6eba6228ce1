use Rattle.std.proofs.Common.{take}
use Rattle.std.specs.List.{AllByRecursion}
use Rattle.cops_types.specs.Deps.{IsDep}
use Rattle.cops_types.proofs.dep.are_legal.Given as goal

abbrev pub invariant-loop-pair : goal.invariant-loop-pair
invariant-loop-pair l = AllByRecursion IsDep (take l.pair-index l.pairs)
