use Rattle.std.proofs.Common.{◌≡◌, List, [], ◌∷◌, ◌++◌, sym, ap, subst, ◌∙◌}
use Rattle.cops_node.specs.declared.event.NodeEvent.{NodeEvent}
use Rattle.cops_node.specs.declared.outcome.Outcome.{Outcome}
use Rattle.cops_node.specs.declared.entry.Entry.{Entry}
use Rattle.cops_node.specs.Node.{opened}
use Rattle.cops_node.specs.Book.{Replays, entry}
use Rattle.cops_node.proofs.Replay.{book_more}
use Rattle.cops_node.proofs.book.Book.step.Goals as goal

pub invariant_of-self-2 : goal.invariant_of-self-2
invariant_of-self-2 c =
    let before = c.self.inside.entries.items in
    let answer = c.in-Ok-answered.answer in
    let gained : c.push_reserved.new.self.items ≡ before ++ entry c.args.ticket c.args.event answer.outcome ∷ [] =
    c.push_reserved.ensures.items ∙ ap (λ (l : List Entry). l ++ entry c.args.ticket c.in-Ok.kept answer.copy ∷ []) c.reserve.ensures.items
    ∙ ap (λ (e : NodeEvent). before ++ entry c.args.ticket e answer.copy ∷ []) c.in-Ok.ensures.cases
    ∙ ap (λ (o : Outcome). before ++ entry c.args.ticket c.args.event o ∷ []) c.in-Ok-answered.ensures.copied in
    subst (λ es. Replays (opened c.answered.new.node.number) es c.answered.new.node) (sym gained) (book_more _ _ _ _ _ _ c.self.invariant c.in-Ok-answered.ensures.stepped)
