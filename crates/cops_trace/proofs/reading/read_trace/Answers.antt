use Rattle.std.proofs.Common.{◌≡◌, ℕ, List, Err, Ok, Result, inr}
use Rattle.std.proofs.lemmas.Result.{err_from_is_err_and}
use Rattle.cops_wire.specs.Answer.{IsBytes}
use Rattle.cops_trace.specs.declared.fault.TraceFault.{TraceFault}
use Rattle.cops_trace.specs.declared.fault.TraceFault.TheVariants.{Cut}
use Rattle.cops_trace.specs.Text.{ATrace}
use Rattle.cops_trace.specs.Answer.{Agrees, AgreesInto, Gives, Says, TakesFrom}
use Rattle.cops_trace.proofs.Feeding.{agrees_only, cut_says, fault_agrees, of_bytes, says_one, whole_says}
use Rattle.cops_trace.proofs.reading.read_trace.Goals as goal

pub returns-in_err-taken-clause-says : goal.returns-in_err-taken-clause-says
returns-in_err-taken-clause-says g c =
    let e = c.in_err-taken.field-0.0 in
    let p = err_from_is_err_and c.from_residual.result c.from_residual.ensures.1 in
    rw (p.1, p.2) (of_bytes (λ (bytes : List ℕ). AgreesInto (λ (trace t : ATrace). trace ≡ t) bytes (Err e)) (λ (bytes : List ℕ). Agrees bytes (Err e)) _ c.in_err-taken.ensures.says (λ bytes. fault_agrees bytes e))

pub returns-in_err-taken-clause-only : goal.returns-in_err-taken-clause-only
returns-in_err-taken-clause-only g c =
    let e = c.in_err-taken.field-0.0 in
    let p = err_from_is_err_and c.from_residual.result c.from_residual.ensures.1 in
    rw (p.1, p.2) (of_bytes (λ (bytes : List ℕ). AgreesInto (λ (trace t : ATrace). trace ≡ t) bytes (Err e)) (λ (bytes : List ℕ). IsBytes bytes → (a : Result ATrace TraceFault) → Says bytes a → Gives a (Err e)) _
    c.in_err-taken.ensures.says (λ bytes h. agrees_only bytes (Err e) (fault_agrees bytes e h)))

pub returns-in-None-clause-only : goal.returns-in-None-clause-only
returns-in-None-clause-only g c =
    let taken = c.in_ok-taken.taken in
    of_bytes (λ (bytes : List ℕ). TakesFrom (λ (trace t : ATrace). trace ≡ t) bytes taken) (λ (bytes : List ℕ). IsBytes bytes → (a : Result ATrace TraceFault) → Says bytes a → a ≡ Ok taken.sink) _
    c.in_ok-taken.ensures.says (λ bytes h fits. says_one bytes taken.sink (whole_says bytes taken h c.in-None.is))

pub returns-in-None-clause-one : goal.returns-in-None-clause-one
returns-in-None-clause-one g c =
    let taken = c.in_ok-taken.taken in
    of_bytes (λ (bytes : List ℕ). TakesFrom (λ (trace t : ATrace). trace ≡ t) bytes taken) (λ (bytes : List ℕ). (a : Result ATrace TraceFault) → Says bytes a → a ≡ Ok taken.sink) _
    c.in_ok-taken.ensures.says (λ bytes h. says_one bytes taken.sink (whole_says bytes taken h c.in-None.is))

pub returns-in-Some-clause-only : goal.returns-in-Some-clause-only
returns-in-Some-clause-only g c =
    let taken = c.in_ok-taken.taken in
    let e = Cut c.in-Some.offset in
    of_bytes (λ (bytes : List ℕ). TakesFrom (λ (trace t : ATrace). trace ≡ t) bytes taken) (λ (bytes : List ℕ). IsBytes bytes → (a : Result ATrace TraceFault) → Says bytes a → Gives a (Err e)) _
    c.in_ok-taken.ensures.says (λ bytes h. agrees_only bytes (Err e) (inr (inr (cut_says bytes taken c.in-Some.offset h c.in-Some.is).1)))
