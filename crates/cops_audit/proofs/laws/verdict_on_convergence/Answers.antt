use Rattle.cops_audit.proofs.Consequences.{convergent, exactly}
use Rattle.cops_audit.proofs.laws.verdict_on_convergence.Goals as goal

pub returns : goal.returns
returns c = record { convergent = convergent; exactly = exactly }
