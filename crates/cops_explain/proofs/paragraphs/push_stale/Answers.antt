use Rattle.cops_explain.proofs.TextLemmas.{three}
use Rattle.cops_explain.proofs.paragraphs.push_stale.Goals as goal

pub returns : goal.returns
returns c =
    three c.push_stale_end.result _ _ _ _ _ _ _ c.in_ok-push_stale_head.ensures c.in_ok-push_chain.ensures
    (rw c.known_by.ensures at c.push_stale_end.ensures)
