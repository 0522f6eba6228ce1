use Rattle.std.proofs.Common.{codes}
use Rattle.std.proofs.lemmas.Bool.{OnFalse_at, OnFalse_from, OnTrue_at, OnTrue_from}
use Rattle.serde_json.specs.View.{view}
use Rattle.cops_scenario.proofs.Scripts.{none_has, one_has}
use Rattle.cops_scenario.proofs.reading.lists_script.Goals as goal

pub returns-in-Some-clause-none : goal.returns-in-Some-clause-none
returns-in-Some-clause-none c =
    OnFalse_from c.has_script.result _ (λ no ds e.
    none_has (codes "script") c.in-Some.items.now.items (view c.args.listed.now) ds c.in-Some.ensures e
    (rw c.deref.ensures.value at (OnFalse_at no c.has_script.ensures.none)))

pub returns-in-Some-clause-some : goal.returns-in-Some-clause-some
returns-in-Some-clause-some c =
    OnTrue_from c.has_script.result _ (λ yes ds e.
    one_has (codes "script") c.in-Some.items.now.items (view c.args.listed.now) ds c.in-Some.ensures e
    (rw c.deref.ensures.value at (OnTrue_at yes c.has_script.ensures.some)))
