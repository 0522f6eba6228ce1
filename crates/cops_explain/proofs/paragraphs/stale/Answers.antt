use Rattle.std.proofs.Common.{refl}
use Rattle.cops_explain.specs.Refused.{history_of}
use Rattle.cops_explain.specs.Paragraphs.{stale_text}
use Rattle.cops_explain.proofs.paragraphs.stale.Goals as goal

pub returns : goal.returns
returns c =
    let chain = c.in_ok-chain.chain.items in
    (stale_text (history_of c.args.refused) c.args.fault chain, (chain, c.in_ok-chain.ensures, refl), rw c.deref.ensures.value at c.in_ok-push_stale.ensures)
