use Rattle.std.proofs.Common.{◌≡◌, None, ap, ◌∙◌, rules}
use Rattle.cops_report.specs.Marks.{mark_at}
use Rattle.cops_report.proofs.GainLemmas.{gains_one}
use Rattle.cops_report.proofs.Tables.{mark_at-same}
use Rattle.cops_report.proofs.search.mark_new.Goals as goal

pub returns-in_ok-push-clause-gains : goal.returns-in_ok-push-clause-gains
returns-in_ok-push-clause-gains c = λ h st.
    let none : mark_at c.args.marks.now c.args.name ≡ None = search rules in
    rw (c.set.ensures, c.in_ok-push.ensures.items) (gains_one h c.args.mark c.args.marks.now c.args.names.now.items c.args.name c.requires none st)

pub returns-in_ok-push-clause-marked : goal.returns-in_ok-push-clause-marked
returns-in_ok-push-clause-marked c = (c.args.mark, ap (λ t. mark_at t c.args.name) c.set.ensures ∙ mark_at-same c.args.marks.now c.args.name c.args.mark c.requires)
