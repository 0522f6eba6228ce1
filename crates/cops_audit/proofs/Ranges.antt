-- Names from one place up to another.
use Rattle.std.proofs.Common.{◌-◌, ◌+◌, ℕ, List, drop, arith, slice_range, AllPairs}
use Rattle.std.proofs.lemmas.List.{get_or-take, get_or-drop, length-take, length-drop}
use Rattle.cops_types.specs.declared.op.OpName.{OpName}
use Rattle.cops_types.specs.Faults.{IsBefore}

-- they are in order
pub range_in_order : (names : List OpName) (start end : ℕ) → AllPairs IsBefore names → AllPairs IsBefore (slice_range names start end)
range_in_order names start end in_order i j d less inside =
    let n = end - start in
    let rest = drop start names in
    let len = length-take n rest in
    rw (get_or-take n rest i d (omega (arith, less, inside, len)), get_or-take n rest j d (omega (arith, inside, len)), get_or-drop start names i d, get_or-drop start names j d)
    (in_order (start + i) (start + j) d (omega (arith, less)) (omega (arith, inside, len, length-drop start names)))
