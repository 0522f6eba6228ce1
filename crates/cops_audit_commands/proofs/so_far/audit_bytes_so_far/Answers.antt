use Rattle.cops_audit_commands.proofs.ReportedSoFar.{accepted_of_so_far, or_fault}
use Rattle.cops_audit_commands.proofs.so_far.audit_bytes_so_far.Goals as goal

pub returns-clause-says : goal.returns-clause-says
returns-clause-says c =
    let agrees = rw c.new.ensures.device at c.read_into-read.ensures.says in
    rw c.or.ensures (or_fault c.reported.result _ _ (c.reported.ensures.says c.args.bytes.now agrees))

pub returns-clause-accepted : goal.returns-clause-accepted
returns-clause-accepted c =
    let agrees = rw c.new.ensures.device at c.read_into-read.ensures.says in
    accepted_of_so_far c.args.bytes.now c.or.result (rw c.or.ensures (or_fault c.reported.result _ _ (c.reported.ensures.says c.args.bytes.now agrees)))
