use Rattle.std.proofs.Common.{◌∙◌}
use Rattle.cops_types.specs.OpViews.{viewed}
use Rattle.cops_audit_commands.proofs.Feeding.{fed_more}
use Rattle.cops_audit_commands.proofs.fed.FedSink.take.Goals as goal

pub returns-in-Ok : goal.returns-in-Ok
returns-in-Ok c = λ t fed. c.in-Ok.ensures.ok ∙ fed_more c.args.self.now.online t c.args.client (viewed c.args.op.now) fed
