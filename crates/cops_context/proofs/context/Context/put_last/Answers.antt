use Rattle.cops_types.specs.Format.{most_deps}
use Rattle.cops_context.proofs.PairLists.{context_beside}
use Rattle.cops_context.proofs.context.Context.put_last.Goals as goal

pub invariant_of-self-then-is_full-2 : goal.invariant_of-self-then-is_full-2
invariant_of-self-then-is_full-2 c =
    rw c.replace-none.ensures.after
    (context_beside (most_deps c.self.inside.format) c.self.inside.pairs.keys c.self.inside.beside c.args.pair
    (rw (← c.self.view_is) at c.requires.room) (rw (← c.self.view_is) at c.requires.new) (rw (← c.self.view_is) at c.requires.few) c.self.invariant)

pub invariant_of-self-then-is_full-3 : goal.invariant_of-self-then-is_full-3
invariant_of-self-then-is_full-3 c =
    rw c.replace-none.ensures.after
    (context_beside (most_deps c.self.inside.format) c.self.inside.pairs.keys c.self.inside.beside c.args.pair
    (rw (← c.self.view_is) at c.requires.room) (rw (← c.self.view_is) at c.requires.new) (rw (← c.self.view_is) at c.requires.few) c.self.invariant)
