use Rattle.std.proofs.Common.{length, take, ◌-◌, ◌≡◌, ◌≤◌}
use Rattle.std.specs.Io.KnownBytes.{Appends}
use Rattle.cops_types.specs.Counted.{failures, inner}
use Rattle.cops_types.proofs.counted.write_text.Given as goal

abbrev pub invariant-loop-written : goal.invariant-loop-written
invariant-loop-written g l =
    let contents = g.W.Write.contents in
    Appends (contents (inner l.fn.writer)) (contents (inner l.writer)) (take l.written l.text)
    × (l.written ≤ length l.text)
    × (failures l.writer ≡ failures l.fn.writer)

abbrev pub decreases-loop-written : goal.decreases-loop-written
decreases-loop-written g l = length l.text - l.written
