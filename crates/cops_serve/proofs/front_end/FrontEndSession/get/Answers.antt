use Rattle.std.proofs.Common.{ap, subst, ◌∙◌}
use Rattle.cops_types.specs.declared.format.Format.{Format}
use Rattle.cops_cluster.specs.declared.cluster.Cluster.{Cluster}
use Rattle.cops_serve.specs.Replying.{IsReplyIn}
use Rattle.cops_serve.proofs.Changes.{recorded_call}
use Rattle.cops_serve.proofs.front_end.FrontEndSession.get.Goals as goal

pub returns-clause-done : goal.returns-clause-done
returns-clause-done g c =
    let done = c.get_outcome-outcome.ensures.done in (
      c.get_outcome-outcome.result,
      subst (λ (f : Format). IsReplyIn f c.get_outcome-outcome.result c.get_replies-replies.result.reported)
          (c.get_outcome-outcome.new.self.in_format ∙ ap (λ (x : Cluster). x.format) done.0.1) c.get_replies-replies.ensures.reported,
      recorded_call c.args.self.now c.get_outcome-outcome.new.self c.record_call.new.self _ _ done c.record_call.ensures.same,
    )
