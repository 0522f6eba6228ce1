use Rattle.std.proofs.Common.{arith}
use Rattle.std.proofs.lemmas.List.{length-append}
use Rattle.cops_types.proofs.Joining.{joined_len}
use Rattle.cops_types.specs.Blocks.{joined}
use Rattle.cops_types.proofs.blocks.Blocks.len.Goals as goal

pub overflow_mul-result : goal.overflow_mul-result
overflow_mul-result c =
    omega (arith, c.len.ensures, c.self.invariant.few, joined_len c.self.inside.full.items c.self.invariant.size, length-append (joined c.self.inside.full.items) c.self.inside.last.items)

pub overflow_add-result : goal.overflow_add-result
overflow_add-result c =
    omega (arith, c.len.ensures, c.len-2.ensures, c.self.invariant.few, joined_len c.self.inside.full.items c.self.invariant.size, length-append (joined c.self.inside.full.items) c.self.inside.last.items)

pub returns : goal.returns
returns c =
    rw (← c.self.view_is) (omega (arith, c.len.ensures, c.len-2.ensures, joined_len c.self.inside.full.items c.self.invariant.size, length-append (joined c.self.inside.full.items) c.self.inside.last.items))
