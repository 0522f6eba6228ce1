use Rattle.std.proofs.Common.{arith}
use Rattle.cops_wire.specs.Grammar.{grammar}
use Rattle.cops_wire.proofs.Answering.{seen_answers}
use Rattle.cops_wire.proofs.record_view.record_at.Goals as goal

pub returns-in-Ok : goal.returns-in-Ok
returns-in-Ok c = seen_answers (grammar c.args.format) c.args.bytes.now c.in-Ok.text.now c.record_in.result (λ i. omega (arith, c.type_inv.bytes i)) c.in-Ok.ensures.reading c.record_in.ensures
