use Rattle.std.proofs.Common.{refl}
use Rattle.cops_explain.specs.Paragraphs.{doubled_text}
use Rattle.cops_explain.specs.Refused.{history_of}
use Rattle.cops_explain.proofs.TextLemmas.{joined}
use Rattle.cops_explain.proofs.paragraphs.push_shown.Goals as goal

pub returns-in_ok-push_others-in-Doubled : goal.returns-in_ok-push_others-in-Doubled
returns-in_ok-push_others-in-Doubled c =
    let others = c.in_ok-others-in-Doubled.others.items in
    rw c.in-Doubled.is (
      doubled_text (history_of c.args.refused) c.in-Doubled.name others,
      (others, c.in_ok-others-in-Doubled.ensures, refl),
      joined _ _ _ _ _ c.in_ok-push_said-in-Doubled.ensures (rw c.deref.ensures.value at c.in_ok-push_others-in-Doubled.ensures),
    )
