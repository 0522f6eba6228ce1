use Rattle.std.proofs.Common.{◌≡◌, ◌-◌, ◌^◌, length}
use Rattle.std.specs.Io.KnownBytes.{Consumes}
use Rattle.cops_types.specs.Counted.{failures, inner}
use Rattle.cops_command.proofs.input.read_all.Given as goal

abbrev pub invariant-loop-count : goal.invariant-loop-count
invariant-loop-count g l =
    Consumes (g.R.Read.remaining (inner l.fn.reader)) (g.R.Read.remaining (inner l.reader)) l.bytes.items
    × (failures l.reader ≡ failures l.fn.reader)

abbrev pub decreases-loop-count : goal.decreases-loop-count
decreases-loop-count g l = 2 ^ 63 - length l.bytes.items
