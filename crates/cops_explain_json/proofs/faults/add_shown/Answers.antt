use Rattle.std.proofs.Common.{[], ◌∷◌, codes, refl}
use Rattle.cops_explain.specs.Refused.{history_of}
use Rattle.cops_explain_json.specs.Faults.{chain_members, puts_members}
use Rattle.cops_explain_json.specs.Operations.{operation_json}
use Rattle.cops_explain_json.proofs.faults.add_shown.Goals as goal

pub returns-in_ok-add_puts-in-Doubled : goal.returns-in_ok-add_puts-in-Doubled
returns-in_ok-add_puts-in-Doubled c =
    let others = c.in_ok-others-in-Doubled.others.items in
    rw c.in-Doubled.is (puts_members (history_of c.args.refused) others, (others, c.in_ok-others-in-Doubled.ensures, refl), rw c.deref.ensures.value at c.in_ok-add_puts-in-Doubled.ensures)

pub returns-in_ok-add_puts-in-NoSource : goal.returns-in_ok-add_puts-in-NoSource
returns-in_ok-add_puts-in-NoSource c =
    let others = c.in_ok-others-in-NoSource.others.items in
    rw c.in-NoSource.is
    (puts_members (history_of c.args.refused) others, (others, c.in_ok-others-in-NoSource.ensures, refl), rw c.deref-in-NoSource.ensures.value at c.in_ok-add_puts-in-NoSource.ensures)

pub returns-in_ok-add-in-NotAbove : goal.returns-in_ok-add-in-NotAbove
returns-in_ok-add-in-NotAbove c =
    rw c.in-NotAbove.is
    ((codes "earlier", operation_json (history_of c.args.refused) c.in-NotAbove.fault.earlier) ∷ [], refl, rw c.in_ok-earlier-in-NotAbove.ensures at c.in_ok-add-in-NotAbove.ensures)

pub returns-in_ok-add_chain-in-Stale : goal.returns-in_ok-add_chain-in-Stale
returns-in_ok-add_chain-in-Stale c =
    let chain = c.in_ok-chain-in-Stale.chain.items in
    rw c.in-Stale.is (
      chain_members (history_of c.args.refused) c.in-Stale.fault.newer chain,
      (chain, c.in_ok-chain-in-Stale.ensures, refl),
      rw c.deref-in-Stale.ensures.value at c.in_ok-add_chain-in-Stale.ensures,
    )
