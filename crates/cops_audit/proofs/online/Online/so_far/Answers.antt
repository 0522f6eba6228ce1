use Rattle.std.proofs.Common.{subst}
use Rattle.cops_audit.specs.SoFar.{IsSoFar}
use Rattle.cops_audit.proofs.online.Online.so_far.Goals as goal

pub returns-clause-so_far : goal.returns-clause-so_far
returns-clause-so_far c = subst (λ h. IsSoFar h c.in-Ok.so_far) c.self.view_is c.in-Ok.ensures.so_far
