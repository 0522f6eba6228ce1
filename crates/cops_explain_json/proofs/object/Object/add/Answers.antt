use Rattle.std.proofs.Common.{rules}
use Rattle.cops_explain_json.specs.Objects.{with_member}
use Rattle.cops_explain_json.proofs.object.Object.add.Goals as goal

pub returns : goal.returns
unfolding with_member
returns c = search rules
