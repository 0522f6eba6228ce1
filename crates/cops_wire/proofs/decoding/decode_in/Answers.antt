use Rattle.std.proofs.Common.{arith}
use Rattle.cops_wire.specs.Grammar.{grammar}
use Rattle.cops_wire.proofs.Answering.{grammar_ok, answers, answers_only}
use Rattle.cops_wire.proofs.decoding.decode_in.Goals as goal

pub returns-clause-answer : goal.returns-clause-answer
returns-clause-answer c = answers (grammar c.args.format) c.args.bytes.now c.frame.result (λ i. omega (arith, c.type_inv.bytes i)) c.frame.ensures.reading

pub returns-clause-only : goal.returns-clause-only
returns-clause-only c = answers_only (grammar c.args.format) (grammar_ok c.args.format) c.args.bytes.now c.frame.result (λ i. omega (arith, c.type_inv.bytes i)) c.frame.ensures.reading
