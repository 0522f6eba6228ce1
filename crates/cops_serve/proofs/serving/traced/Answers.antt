use Rattle.std.proofs.Common.{refl, arith}
use Rattle.cops_serve.proofs.serving.traced.Goals as goal
use Rattle.cops_serve.proofs.serving.traced.Goals.{then-keeps_trace+in_ok-write_whole, else-keeps_trace}

pub returns-clause-report : goal.returns-clause-report
returns-clause-report g c = (
  c.in_ok-trace.field-0,
  c.in_ok-trace.was,
  refl,
  λ kept. elim c.if-keeps_trace.branch [
    | then-keeps_trace+in_ok-write_whole w ↦ rw w.made-is w.in_ok-write_whole.ensures
    | else-keeps_trace w ↦ grind (arith, kept, w.if-keeps_trace.false)
  ],
)
