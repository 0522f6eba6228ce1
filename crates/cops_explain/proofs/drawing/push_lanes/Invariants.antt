use Rattle.std.proofs.Common.{string_bytes}
use Rattle.cops_explain.specs.Pictures.{Extends}
use Rattle.cops_explain.proofs.drawing.push_lanes.Given as goal

abbrev pub invariant-loop-lane : goal.invariant-loop-lane
invariant-loop-lane l = Extends (string_bytes l.fn.out) (string_bytes l.out)
