use Rattle.std.proofs.Common.{rules, sym, subst}
use Rattle.cops_types.specs.Format.{Fits}
use Rattle.cops_types.specs.Histories.{Operation}
use Rattle.cops_types.specs.Operations.{operation_of}
use Rattle.cops_trace.specs.Text.{IsOp}
use Rattle.cops_import.proofs.Records.{cut_so_far}
use Rattle.cops_import.proofs.Stops.{if_err, on_ok}
use Rattle.cops_import.proofs.ending.Ending.take.Goals as goal

pub returns-in_default-clause-err : goal.returns-in_default-clause-err
returns-in_default-clause-err g c = λ from ops returned h. record { cut = cut_so_far g.W.Write.contents from _ _ h.wrote; heard = tt }

pub returns-then-not-in_format-clause-err : goal.returns-then-not-in_format-clause-err
returns-then-not-in_format-clause-err g c = λ from ops returned h. record { cut = cut_so_far g.W.Write.contents from _ _ h.wrote; heard = h.wrote.heard }

pub returns-clause-ok : goal.returns-clause-ok
returns-clause-ok g c =
    let e = c.args.self.now in
    let put = c.args.put.now in
    let fits : Fits e.writer.counts.format put.write.content = search rules in
    let legal : IsOp e.writer.counts.format (operation_of c.in-Ok.op) =
    subst (λ (o : Operation). IsOp e.writer.counts.format o) (sym c.in-Ok.ensures.op) (c.in-Ok.ensures.legal.0, fits, c.in-Ok.ensures.legal.1) in
    on_ok c.write.result _ _ (λ h from ops returned own. h from ops returned (record { put = put; version = c.args.version }) c.in-Ok.ensures.op legal own) c.write.ensures.ok

pub returns-clause-err : goal.returns-clause-err
returns-clause-err g c =
    let e = c.args.self.now in
    let put = c.args.put.now in
    let fits : Fits e.writer.counts.format put.write.content = search rules in
    let legal : IsOp e.writer.counts.format (operation_of c.in-Ok.op) =
    subst (λ (o : Operation). IsOp e.writer.counts.format o) (sym c.in-Ok.ensures.op) (c.in-Ok.ensures.legal.0, fits, c.in-Ok.ensures.legal.1) in
    if_err c.write.result _ _ (λ fault h from ops returned own. h from ops returned legal own) c.write.ensures.err
