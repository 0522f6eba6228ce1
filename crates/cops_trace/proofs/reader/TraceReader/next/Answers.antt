use Rattle.std.proofs.Common.{Some, subst}
use Rattle.cops_trace.specs.Next.{Stands}
use Rattle.cops_trace.specs.Reading.{progress_so_far}
use Rattle.cops_trace.proofs.Underway.{stopped_here}
use Rattle.cops_trace.proofs.reader.TraceReader.next.Goals as goal

pub invariant_of-self : goal.invariant_of-self
invariant_of-self c =
    let old = c.args.self.now in
    let stands = subst (Stands (progress_so_far old) old.rest) c.in-Ok-Fails.field-0-is c.in-Ok-Fails.ensures.found in
    (c.self.invariant.0, stopped_here _ old (Some c.in-Ok-Fails.fault) c.in-Ok-Fails.fault c.self.view_is c.if-self.false stands)
