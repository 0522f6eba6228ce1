use Rattle.cops_explain_json.proofs.OneJson.{one_json}
use Rattle.cops_explain_json.proofs.laws.one_json.Goals as goal

pub returns : goal.returns
returns c = one_json
