use Rattle.std.proofs.Common.{string_bytes}
use Rattle.cops_explain.specs.Pictures.{Extends}
use Rattle.cops_explain.proofs.drawing.push_cards.Given as goal

abbrev pub invariant-loop-place : goal.invariant-loop-place
invariant-loop-place l = Extends (string_bytes l.fn.out) (string_bytes l.out)
