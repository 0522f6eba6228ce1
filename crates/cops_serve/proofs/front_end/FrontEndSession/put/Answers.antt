use Rattle.cops_serve.proofs.Changes.{recorded_call}
use Rattle.cops_serve.proofs.front_end.FrontEndSession.put.Goals as goal

pub returns-clause-done : goal.returns-clause-done
returns-clause-done g c =
    let d = c.write_reply-replies.ensures.done in (d.0, d.1, recorded_call c.args.self.now c.write_reply-replies.new.self c.record_call.new.self _ _ d.2 c.record_call.ensures.same)
