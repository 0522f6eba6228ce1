use Rattle.cops_audit.proofs.Continuing.{clean_where}
use Rattle.cops_audit.proofs.laws.clean_exactly_where_accepted.Goals as goal

pub returns : goal.returns
returns c = clean_where
