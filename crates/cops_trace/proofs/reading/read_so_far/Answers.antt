use Rattle.std.proofs.Common.{◌≡◌, ℕ, List}
use Rattle.std.proofs.lemmas.Result.{err_from_is_err_and}
use Rattle.cops_trace.specs.Answer.{BeginsAs, TakesFrom}
use Rattle.cops_trace.proofs.Feeding.{begins_as, of_bytes}
use Rattle.cops_trace.proofs.reading.read_so_far.Goals as goal

pub returns-clause-says : goal.returns-clause-says
returns-clause-says g c =
    let taken = c.in_ok-taken.taken in
    of_bytes (λ (bytes : List ℕ). TakesFrom (λ trace t. trace ≡ t) bytes taken) (λ (bytes : List ℕ). BeginsAs bytes taken.sink taken.cut) _ c.in_ok-taken.ensures.says (λ bytes. begins_as bytes taken)

pub returns-in_err-taken-clause-says : goal.returns-in_err-taken-clause-says
returns-in_err-taken-clause-says g c =
    let p = err_from_is_err_and c.from_residual.result c.from_residual.ensures.1 in
    rw (p.1, p.2) c.in_err-taken.ensures.says
