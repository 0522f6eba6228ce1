use Rattle.std.proofs.Common.{◌≡◌, map, take}
use Rattle.std.specs.List.{IsDistinct}
use Rattle.cops_types.specs.Dep.{is_same_dep}
use Rattle.cops_types.proofs.dep.are_apart_in_set.Given as goal

abbrev pub invariant-loop-pair : goal.invariant-loop-pair
invariant-loop-pair l = (map (λ p. p.now) l.seen.keys ≡ take l.pair-index l.pairs) × IsDistinct is_same_dep (take l.pair-index l.pairs)
