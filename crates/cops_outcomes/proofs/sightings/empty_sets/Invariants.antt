use Rattle.std.proofs.Common.{◌≡◌, [], map, replicate}
use Rattle.cops_outcomes.proofs.sightings.empty_sets.Given as goal

abbrev pub invariant-loop-i : goal.invariant-loop-i
invariant-loop-i l = map (λ versions. versions.keys) l.sets.items ≡ replicate l._i []
