use Rattle.std.proofs.Common.{refl}
use Rattle.cops_audit_commands.proofs.Frames.{none_stands, it_ends}
use Rattle.cops_audit_commands.proofs.show.append_next.Goals as goal

pub returns-in_default : goal.returns-in_default
returns-in_default c = record { next = (refl, none_stands _ _ _ c.in-Err.fault c.in_default.not-Memory c.in-Err.ensures.only); used = tt }

pub returns-in-Ok-clause-next : goal.returns-in-Ok-clause-next
returns-in-Ok-clause-next c = it_ends _ _ _ c.in-Ok.decoded _ _ c.append_ending.result c.append_ending.ensures.late c.append_ending.ensures.line c.in-Ok.ensures.answer c.in-Ok.ensures.only
