use Rattle.std.proofs.Common.{ℕ, List, ◌++◌, slice_index_or, sym, ap, ◌∙◌}
use Rattle.cops_tie.specs.declared.outcome.ClientOutcome.TheVariants.{Done}
use Rattle.cops_run_command.specs.Lines.{client_line}
use Rattle.cops_run_command.proofs.LineByLine.{next_line}
use Rattle.cops_run_command.proofs.scripts.lines.Goals as goal

pub loop-n-preserved : goal.loop-n-preserved
loop-n-preserved c =
    let n = c.loop-n.n in
    let outcomes = c.args.outcomes.now in
    rw (c.as_bytes.ensures.value, c.in_ok-line.ensures) at c.in_ok-extend_from_slice.ensures.items
    ∙ ap (λ (xs : List ℕ). xs ++ client_line n (slice_index_or outcomes n Done)) c.loop-n.invariant
    ∙ sym (next_line client_line outcomes n Done c.loop-n-test.true)
