use Rattle.std.proofs.Common.{Ok, Err, Some, refl, sym, subst}
use Rattle.cops_types.specs.declared.format.Format.{Format}
use Rattle.cops_wire.specs.Answer.{Answers, IsAnswer}
use Rattle.cops_wire.specs.Grammar.{grammar}
use Rattle.cops_trace.specs.Counts.{progress_from}
use Rattle.cops_trace.specs.Next.{FrameIs}
use Rattle.cops_trace.proofs.Founds.{takes_memory, unread_stands}
use Rattle.cops_trace.proofs.finding.later_found.Goals as goal

pub returns-in-Ok-clause-found : goal.returns-in-Ok-clause-found
returns-in-Ok-clause-found c =
    let frame = Ok (c.in-Ok.decoded.message, c.in-Ok.decoded.used) in
    record { frame = frame; frame_is = subst (λ (f : Format). FrameIs f c.args.rest.now frame) c.format.ensures c.in-Ok.ensures.answer; found_is = sym c.later_message.ensures }

pub returns-in-Err-clause-found : goal.returns-in-Err-clause-found
returns-in-Err-clause-found c =
    let answer = subst (λ (f : Format). Answers (Err c.in-Err.fault) (IsAnswer (grammar f) c.args.rest.now)) c.format.ensures c.in-Err.ensures.answer in
    unread_stands (Some (progress_from c.args.at c.args.counts.now)) c.args.at c.args.rest.now c.in-Err.fault c.unread.result refl answer c.unread.ensures.found

pub returns-in-Err-clause-memory : goal.returns-in-Err-clause-memory
returns-in-Err-clause-memory c = rw (← c.format.ensures) (takes_memory c.format.result c.args.rest.now c.in-Err.fault c.unread.result c.unread.ensures.memory c.in-Err.ensures.memory)
