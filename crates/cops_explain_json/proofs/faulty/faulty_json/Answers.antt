use Rattle.std.proofs.Common.{◌≡◌, rules}
use Rattle.serde_json.specs.View.{view}
use Rattle.cops_explain_json.specs.Faulty.{faulty_json}
use Rattle.cops_explain_json.proofs.NoFloats.{faulty_none}
use Rattle.cops_explain_json.proofs.faulty.faulty_json.Goals as goal

pub line_of-requires : goal.line_of-requires
line_of-requires c =
    let is : view c.into_json.result ≡ faulty_json c.args.why.now c.args.line = search rules in
    rw is (faulty_none c.args.why.now c.args.line)
