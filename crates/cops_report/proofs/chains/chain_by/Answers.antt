use Rattle.std.proofs.Common.{◌≡◌, ◌∙◌, true, false, refl, sym}
use Rattle.cops_report.proofs.ChainLemmas.{chain_names, first_chain, leads_back, no_chain}
use Rattle.cops_report.proofs.chains.chain_by.Goals as goal
use Rattle.cops_report.proofs.chains.chain_by.Goals.{then-not-is_named-via-then-not-is_named, then-not-is_named-via-else-not-is_named+then-not-is_named-2}

pub returns-then-not-is_named : goal.returns-then-not-is_named
returns-then-not-is_named c = λ names chain.
    let named = chain_names c.args.history.now.sessions c.args.from c.args.to names chain in
    elim c.then-not-is_named.branch [
      | then-not-is_named-via-then-not-is_named w ↦ absurd (let e : false ≡ true = w.if-not-is_named.ensures.1 named.0 in cc)
      | then-not-is_named-via-else-not-is_named+then-not-is_named-2 w ↦ absurd (let e : false ≡ true = w.if-not-is_named-2.ensures.1 named.1 in cc)
    ]

pub returns-in_default : goal.returns-in_default
returns-in_default c = no_chain c.args.history.now.sessions c.args.from c.args.to c.in_ok-marks.marks c.in_ok-marks.ensures (sym c.get.ensures ∙ c.in_default.is)

pub walk-requires-clause-back : goal.walk-requires-clause-back
walk-requires-clause-back c = leads_back c.args.history.now.sessions c.args.to c.in_ok-marks.marks c.in_ok-marks.ensures.depth c.in_ok-marks.ensures.search

pub returns : goal.returns
returns c = first_chain c.args.history.now.sessions c.args.from c.args.to c.in_ok-marks.marks c.in_ok-marks.ensures (c.if-not-is_named.ensures.0 refl) c.in_ok-names.names.items c.in_ok-names.ensures
