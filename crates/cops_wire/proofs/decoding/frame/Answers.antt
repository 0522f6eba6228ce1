use Rattle.std.proofs.Common.{List, ℕ, subst, arith}
use Rattle.std.specs.Prelude.{IsTrue}
use Rattle.cops_wire.specs.Grammar.{grammar}
use Rattle.cops_wire.specs.Reading.{body_takes}
use Rattle.cops_wire.proofs.Frames.{taking_frame}
use Rattle.cops_wire.proofs.decoding.frame.Goals as goal

pub returns-in-Ok-clause-memory : goal.returns-in-Ok-clause-memory
returns-in-Ok-clause-memory c = λ e.
    let bytes = c.args.bytes.now in
    let some = c.in-Ok.ensures.some in
    let place = c.in-Ok.ensures.place in
    taking_frame (grammar c.args.format) bytes (λ i. omega (arith, c.type_inv.bytes i)) (omega (arith, some.0, place.1)) (omega (arith, some.1, place.1)) (omega (arith, place.0, place.1)) (subst (λ (t : List ℕ). IsTrue (body_takes (grammar c.args.format) t)) place.2 (c.body.ensures.memory e))
