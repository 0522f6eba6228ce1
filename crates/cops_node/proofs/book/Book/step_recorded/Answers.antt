use Rattle.std.proofs.Common.{◌≡◌, List, [], ◌∷◌, ◌++◌, sym, ap, subst, ◌∙◌}
use Rattle.cops_node.specs.declared.event.NodeEvent.{NodeEvent}
use Rattle.cops_node.specs.declared.outcome.Outcome.{Outcome}
use Rattle.cops_node.specs.declared.entry.Entry.{Entry}
use Rattle.cops_node.specs.Node.{opened}
use Rattle.cops_node.specs.Book.{Replays, entry}
use Rattle.cops_node.proofs.Replay.{book_more}
use Rattle.cops_node.proofs.book.Book.step_recorded.Goals as goal

pub invariant_of-self-2 : goal.invariant_of-self-2
invariant_of-self-2 c =
    let before = c.self.inside.entries.items in
    let events = c.in_ok-events.events in
    let answers = c.in_ok-answers.answers in
    let gained : c.push_reserved.new.self.items ≡ before ++ entry c.args.ticket c.args.event answers.outcome ∷ [] =
    c.push_reserved.ensures.items ∙ ap (λ (l : List Entry). l ++ entry c.args.ticket events.kept answers.kept ∷ []) c.reserve.ensures.items
    ∙ ap (λ (e : NodeEvent). before ++ entry c.args.ticket e answers.kept ∷ []) c.in_ok-events.ensures.0
    ∙ ap (λ (o : Outcome). before ++ entry c.args.ticket c.args.event o ∷ []) c.in_ok-answers.ensures.copied.0 in
    subst (λ es. Replays (opened c.of-2.new.node.number) es c.of-2.new.node) (sym gained) (book_more _ _ _ _ _ _ c.self.invariant c.in_ok-answers.ensures.stepped)
