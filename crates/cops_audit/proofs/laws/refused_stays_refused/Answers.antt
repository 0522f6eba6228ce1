use Rattle.cops_audit.proofs.Continuing.{refused_stays}
use Rattle.cops_audit.proofs.laws.refused_stays_refused.Goals as goal

pub returns : goal.returns
returns c = refused_stays
