use Rattle.cops_audit_commands.proofs.UniqueSoFar.{one_audit_so_far, uncut}
use Rattle.cops_audit_commands.proofs.laws.one_audit_so_far.Goals as goal

pub returns-clause-one : goal.returns-clause-one
returns-clause-one c = λ bytes fits a b x y p q. one_audit_so_far bytes a b x y fits p q

pub returns-clause-uncut : goal.returns-clause-uncut
returns-clause-uncut c = λ bytes none answer reported. uncut bytes none answer reported
