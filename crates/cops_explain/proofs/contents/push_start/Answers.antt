use Rattle.std.proofs.Common.{arith, sym}
use Rattle.std.proofs.lemmas.List.{length-take-le}
use Rattle.cops_explain.proofs.contents.push_start.Goals as goal

pub slice_bounds-start-end : goal.slice_bounds-start-end
slice_bounds-start-end c = sym (length-take-le 64 c.args.value.now (omega arith))
