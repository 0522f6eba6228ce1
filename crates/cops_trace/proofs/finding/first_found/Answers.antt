use Rattle.std.proofs.Common.{Ok, None, refl, sym}
use Rattle.cops_trace.proofs.Founds.{unread_stands}
use Rattle.cops_trace.proofs.finding.first_found.Goals as goal

pub returns-in-Ok-clause-found : goal.returns-in-Ok-clause-found
returns-in-Ok-clause-found c = record { frame = Ok (c.in-Ok.decoded.message, c.in-Ok.decoded.used); frame_is = c.in-Ok.ensures.answer; found_is = sym c.first_message-found.ensures }

pub returns-in-Err-clause-found : goal.returns-in-Err-clause-found
returns-in-Err-clause-found c = unread_stands None 0 c.args.bytes.now c.in-Err.fault c.unread.result refl c.in-Err.ensures.answer c.unread.ensures.found
