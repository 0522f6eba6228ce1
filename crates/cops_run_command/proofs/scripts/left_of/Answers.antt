use Rattle.std.proofs.Common.{◌≡◌, ◌++◌, ap, ◌∙◌}
use Rattle.cops_run_command.specs.Lines.{client_lines}
use Rattle.cops_run_command.proofs.scripts.left_of.Goals as goal

pub returns-in-Ok-reported_left-clause-text : goal.returns-in-Ok-reported_left-clause-text
returns-in-Ok-reported_left-clause-text c =
    let lines : c.in-Ok.lines.items ≡ client_lines c.args.run.outcomes.items = c.in-Ok.ensures ∙ ap client_lines c.deref.ensures.value in
    let reported = c.in-Ok-reported_left.ensures.text in (reported.0, reported.1, reported.2, reported.3 ∙ ap (λ l. l ++ reported.1) lines)
