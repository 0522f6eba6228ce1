use Rattle.std.proofs.Common.{subst}
use Rattle.cops_audit.specs.Placing.{AreSources}
use Rattle.cops_audit.proofs.Naming.{names_listed}
use Rattle.cops_audit.proofs.puts.Puts.new.Goals as goal

pub invariant_of-result : goal.invariant_of-result
invariant_of-result c = (
  record { names = names_listed c.args.history.now.sessions; table = c.in_ok-table.ensures.puts; limits = c.in_ok-table.ensures.limits },
  subst (λ table. AreSources c.args.history.now table c.in_ok-sources.sources) c.as_slice.ensures.value c.in_ok-sources.ensures,
)
