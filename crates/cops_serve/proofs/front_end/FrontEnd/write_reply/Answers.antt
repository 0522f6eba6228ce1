use Rattle.std.specs.Prelude.{option_copied}
use Rattle.cops_serve.proofs.Changes.{either, write_reply}
use Rattle.cops_serve.proofs.front_end.FrontEnd.write_reply.Goals as goal

pub write_replies-requires : goal.write_replies-requires
write_replies-requires g c = either (option_copied c.args.content) c.write_outcome-outcome.result c.write_outcome-outcome.ensures.outcome

pub returns-clause-reply : goal.returns-clause-reply
returns-clause-reply g c =
    let p = c.write_outcome-outcome.ensures in
    write_reply c.args.self.now.cluster.format (option_copied c.args.content) c.write_outcome-outcome.result c.write_replies.result.reported p.outcome p.in_format c.write_replies.ensures.reported
