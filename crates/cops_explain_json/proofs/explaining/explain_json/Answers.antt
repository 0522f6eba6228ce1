use Rattle.serde_json.specs.View.{view}
use Rattle.cops_explain.specs.Naming.{ANamedHistory}
use Rattle.cops_explain_json.proofs.NoFloats.{verdict_none}
use Rattle.cops_explain_json.proofs.explaining.explain_json.Goals as goal

pub line_of-requires : goal.line_of-requires
line_of-requires c =
    let named : ANamedHistory = record { sessions = c.args.history.now.sessions; naming = c.args.naming.now } in
    verdict_none named c.args.verdict.now c.args.asked (view c.in_ok-json.json) c.in_ok-json.ensures
