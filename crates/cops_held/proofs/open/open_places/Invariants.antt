use Rattle.std.proofs.Common.{◌≡◌, ◌++◌, drop}
use Rattle.cops_held.specs.Taking.{open_from}
use Rattle.cops_held.proofs.open.open_places.Given as goal

-- the indexes found so far and those that are left
abbrev pub invariant-loop-i : goal.invariant-loop-i
invariant-loop-i l = l.places.items ++ open_from l.i (drop l.i l.fn.marks) ≡ open_from 0 l.fn.marks
