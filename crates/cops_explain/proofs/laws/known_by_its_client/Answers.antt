use Rattle.cops_explain.proofs.StepLemmas.{known_of_client}
use Rattle.cops_explain.proofs.laws.known_by_its_client.Goals as goal

pub returns : goal.returns
returns c = known_of_client
