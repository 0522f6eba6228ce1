use Rattle.std.proofs.lemmas.Result.{IfOk-weaker}
use Rattle.cops_serve.specs.Serving.{IsReportOn, IsServedAs}
use Rattle.cops_serve.proofs.serving.served.Goals as goal

pub returns : goal.returns
returns g c =
    let f = c.in_ok-front_end.front_end in
    let e = c.in_ok-front_end.ensures in
    IfOk-weaker c.finish.result (λ left. IsReportOn c.args.scenario.now f left.trace left.report.items) (λ left. IsServedAs c.args.door.sessions c.args.scenario.now left.trace left.report.items)
    (λ left report. record { opened = e.served.0; is_opened = e.served.1; front_end = f; served = e.served.2; count = e.count; calls = e.calls; report = report })
    c.finish.ensures
