use Rattle.std.proofs.Common.{◌≡◌, take}
use Rattle.cops_place.proofs.place.PlaceClone.clone.Given as goal

abbrev pub invariant-loop-split : goal.invariant-loop-split
invariant-loop-split l = l.splits.items ≡ take l.split-index l.split-items
