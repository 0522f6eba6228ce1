use Rattle.cops_explain.proofs.Unique.{one_explanation}
use Rattle.cops_explain.proofs.laws.one_explanation.Goals as goal

pub returns : goal.returns
returns c = one_explanation
