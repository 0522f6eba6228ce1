use Rattle.std.proofs.Common.{ℕ, List}
use Rattle.std.proofs.lemmas.Result.{err_from_is_err_and}
use Rattle.cops_trace.specs.Answer.{TakesFrom}
use Rattle.cops_trace.specs.Parsing.{SettledInto}
use Rattle.cops_trace.proofs.Feeding.{into_fault, of_bytes}
use Rattle.cops_trace.proofs.reading.read_into.Goals as goal

pub returns-in_err-parser-clause-says : goal.returns-in_err-parser-clause-says
returns-in_err-parser-clause-says g c =
    let p = err_from_is_err_and c.from_residual.result c.from_residual.ensures.1 in
    rw (p.1, p.2) (into_fault _ c.in_err-parser.field-0.0 c.in_err-parser.ensures.err c.in_err-parser.ensures.no_cut)

pub returns-in-Ok-clause-says : goal.returns-in-Ok-clause-says
returns-in-Ok-clause-says g c =
    let parser = c.in_ok-parser.parser in
    let took = g.S.Sink.took in
    of_bytes (λ (bytes : List ℕ). SettledInto took bytes parser.begun parser.reader) (λ (bytes : List ℕ). TakesFrom took bytes c.in-Ok.taken) _ c.in_ok-parser.ensures.ok c.in-Ok.ensures
