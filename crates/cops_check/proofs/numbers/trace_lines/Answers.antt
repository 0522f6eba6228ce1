use Rattle.std.proofs.Common.{◌++◌, ◌∙◌, List, ℕ, ap, map, not}
use Rattle.std.proofs.lemmas.List.Elements.{filter_agree}
use Rattle.cops_import.specs.Outcomes.{took_effect}
use Rattle.cops_check.proofs.numbers.trace_lines.Goals as goal

pub returns : goal.returns
returns c =
    c.in_ok-add_own_lines.ensures
    ∙ ap (λ (kept : List ℕ). kept ++ map (λ o. o.line) (took_effect c.args.unknown.now))
    (c.in_ok-all.ensures ∙ filter_agree _ _ (λ (number : ℕ). ap not (c.in_ok-skipped.ensures number)) c.args.numbers.now)
