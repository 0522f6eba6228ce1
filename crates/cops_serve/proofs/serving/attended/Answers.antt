use Rattle.std.proofs.Common.{subst}
use Rattle.cops_types.specs.declared.format.Format.{Format}
use Rattle.cops_net.specs.Listening.{AreServed}
use Rattle.cops_serve.specs.declared.front_end.FrontEnd.{FrontEnd}
use Rattle.cops_serve.specs.FrontEnd.{Ends}
use Rattle.cops_serve.proofs.serving.attended.Goals as goal

pub returns-clause-served : goal.returns-clause-served
returns-clause-served g c = (
  c.in-Ok.front_end,
  c.in-Ok.ensures,
  subst (λ (f : Format). AreServed f (λ (x : FrontEnd). x.calls.items) Ends c.args.door.sessions c.in-Ok.front_end c.attend.new.front_end) c.in-Ok.ensures.format c.in_ok-attend.ensures.served,
)
