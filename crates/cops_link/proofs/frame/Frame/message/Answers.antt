use Rattle.std.proofs.Common.{◌∙◌}
use Rattle.cops_link.proofs.Frames.{answered, only_memory, same_message}
use Rattle.cops_link.proofs.frame.Frame.message.Goals as goal

pub out_of_memory-requires : goal.out_of_memory-requires
out_of_memory-requires c =
    only_memory c.in-Err.fault _ (c.in-Err.ensures.only _ (answered _ _ c.deref.ensures.value c.self.invariant))

pub returns-in-Ok : goal.returns-in-Ok
returns-in-Ok c =
    let same = same_message c.in-Ok.decoded c.self.invariant.0 _ (c.in-Ok.ensures.only _ (answered _ _ c.deref.ensures.value c.self.invariant)) in
    (c.self.invariant.0, same, c.self.invariant.2 ∙ c.self.view_is)
