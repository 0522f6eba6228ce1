use Rattle.std.proofs.Common.{ℕ, List, ◌++◌, take, sym, ap, ◌∙◌}
use Rattle.cops_node.specs.declared.outcome.Outcome.{Outcome}
use Rattle.cops_scenario.specs.Lines.{outcome_line}
use Rattle.cops_run_command.specs.Lines.{outcome_lines}
use Rattle.cops_run_command.proofs.LineByLine.{next_line}
use Rattle.cops_run_command.proofs.events.lines.Goals as goal

pub loop-n-preserved : goal.loop-n-preserved
loop-n-preserved c =
    let n = c.loop-n.n in
    let outcome = c.index-outcomes-n.result in
    c.in_ok-outcome_line.ensures.ok
    ∙ ap (λ (xs : List ℕ). xs ++ outcome_line n outcome) c.loop-n.invariant
    ∙ ap (λ (o : Outcome). outcome_lines (take n c.args.outcomes.now) ++ outcome_line n o) c.index-outcomes-n.is
    ∙ sym (next_line outcome_line c.args.outcomes.now n outcome c.loop-n-test.true)
