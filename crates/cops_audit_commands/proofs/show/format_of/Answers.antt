use Rattle.cops_audit_commands.proofs.Frames.{read_in, read_in_one}
use Rattle.cops_audit_commands.proofs.show.format_of.Goals as goal

pub returns-in_default : goal.returns-in_default
returns-in_default c = read_in_one _ c.in-Err.fault c.in_default.not-Memory c.in-Err.ensures.only

pub returns-in-Ok : goal.returns-in-Ok
returns-in-Ok c = rw c.unwrap_or.ensures (read_in _ c.in-Ok.decoded c.named-format.result c.in-Ok.ensures.answer c.in-Ok.ensures.only c.named-format.ensures)
