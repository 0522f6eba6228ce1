use Rattle.cops_audit_commands.proofs.ReportedSoFar.{accepted_of, or_fault, whole_said}
use Rattle.cops_audit_commands.proofs.audit.audit_bytes.Goals as goal

pub returns-in-Ok-clause-says : goal.returns-in-Ok-clause-says
returns-in-Ok-clause-says c =
    let agrees = rw c.new.ensures.device at c.read_into.ensures.says in
    whole_said c.args.bytes.now c.in-Ok.fed c.whole.result (c.in-Ok.ensures.whole c.args.bytes.now agrees) c.whole.ensures

pub returns-in-Ok-clause-accepted : goal.returns-in-Ok-clause-accepted
returns-in-Ok-clause-accepted c =
    let agrees = rw c.new.ensures.device at c.read_into.ensures.says in
    accepted_of c.args.bytes.now c.whole.result (whole_said c.args.bytes.now c.in-Ok.fed c.whole.result (c.in-Ok.ensures.whole c.args.bytes.now agrees) c.whole.ensures)

pub returns-in-Err-clause-says : goal.returns-in-Err-clause-says
returns-in-Err-clause-says c =
    let agrees = rw c.new.ensures.device at c.read_into.ensures.says in
    rw c.or.ensures (or_fault c.no_trace.result _ _ (c.no_trace.ensures.says c.args.bytes.now (c.in-Err.ensures.fault c.args.bytes.now agrees)))
