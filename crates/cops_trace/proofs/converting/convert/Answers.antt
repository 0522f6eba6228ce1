use Rattle.std.proofs.Common.{ℕ, List, subst}
use Rattle.std.proofs.lemmas.Result.{err_from_is_err_and, IfErr-weaker}
use Rattle.cops_trace.specs.Answer.{Agrees}
use Rattle.cops_trace.specs.Converting.{IsConverted, IsFaultOf}
use Rattle.cops_trace.proofs.ConvertFaults.{is_fault_of, left_at}
use Rattle.cops_trace.proofs.Feeding.{of_bytes}
use Rattle.cops_trace.proofs.converting.convert.Goals as goal

pub returns-in_err-trace-clause-faulty : goal.returns-in_err-trace-clause-faulty
returns-in_err-trace-clause-faulty g c =
    let e = c.in_err-trace.field-0.0 in
    let p = err_from_is_err_and c.from_residual.result c.from_residual.ensures.1 in
    let fault = c.in_err-trace.ensures.err in
    rw (p.1, p.2) (of_bytes (λ (bytes : List ℕ). Agrees bytes c.read_trace.result) (λ (bytes : List ℕ). IsFaultOf bytes e) _
    c.read_trace.ensures.says (λ bytes h. is_fault_of bytes fault.0 e (subst (Agrees bytes) fault.1 h) fault.2))

pub returns-clause-left : goal.returns-clause-left
returns-clause-left g c =
    let new = c.in_ok-trace.trace in
    let read = c.in_ok-trace.ensures.ok in
    let is = of_bytes (λ (bytes : List ℕ). Agrees bytes c.read_trace.result) (λ (bytes : List ℕ). IsConverted bytes new) _
    c.read_trace.ensures.says (λ bytes h. (read.0, subst (Agrees bytes) read.1 h, read.2)) in
    IfErr-weaker c.write_counted-written.result _ _ (λ e left. left_at _ new e _ _ is left) c.write_counted-written.ensures.left
