use Rattle.std.proofs.Common.{take}
use Rattle.std.specs.List.{IsDistinct}
use Rattle.cops_types.specs.Dep.{is_same_dep}
use Rattle.cops_types.proofs.dep.are_apart.Given as goal

abbrev pub invariant-loop-i : goal.invariant-loop-i
invariant-loop-i l = IsDistinct is_same_dep (take l.i l.pairs)
