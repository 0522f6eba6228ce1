use Rattle.std.proofs.Common.{arith}
use Rattle.cops_types.proofs.Reporting.{length-reported}
use Rattle.cops_types.proofs.history.History.session_len.Goals as goal

pub returns-clause-limit : goal.returns-clause-limit
returns-clause-limit c =
    omega (arith, c.self.invariant.limits.each c.args.client, length-reported c.self.inside.keys.keys c.self.inside.entries.all c.args.client)
