use Rattle.cops_node.proofs.Replay.{memory_keeps}
use Rattle.cops_node.proofs.book.stepped.Goals as goal

pub returns-then-is_memory-clause-memory : goal.returns-then-is_memory-clause-memory
returns-then-is_memory-clause-memory c = memory_keeps _ _ c.args.event _ c.step-outcome.ensures.happens (c.is_memory.ensures.0 c.if-is_memory.true)
