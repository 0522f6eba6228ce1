use Rattle.std.proofs.Common.{List, Option, Result, IfOk, IfSome, ℕ, ap, subst, arith, rules}
use Rattle.std.specs.Prelude.{is_ok}
use Rattle.cops_types.specs.Counted.{inner}
use Rattle.cops_scenario.specs.File.{IsTextOf}
use Rattle.cops_scenario.specs.Scenario.{AScenario}
use Rattle.cops_serve.proofs.Ends.{Ended, IsPrinted, ended, ended_traced, printed}
use Rattle.cops_serve.proofs.serving.serve_stream.Goals as goal

pub returns : goal.returns
returns g c =
    let s = c.in-Ok.scenario in
    let sessions = c.args.door.sessions in
    let keeps = c.args.door.keeps_trace in
    let bytes = g.I.Read.remaining (inner c.args.reader.now) in
    let made_old = g.T.Write.contents (inner c.args.made.now) in
    let made_new = g.T.Write.contents (inner c.traced-report.new.made) in
    let old = g.W.Write.contents (inner c.args.out.now) in
    let new = g.W.Write.contents (inner c.printed.new.out) in
    let served = c.served-served.result in
    let report = c.traced-report.result in
    let read : IfSome bytes (λ (b : List ℕ). IsTextOf b s) =
    subst (λ (read : Result AScenario ℕ). IfOk read (λ (s : AScenario). IfSome bytes (λ (b : List ℕ). IsTextOf b s))) c.in-Ok.is c.in_ok-scenario.ensures.reported in
    let gained : IfOk c.printed.result (IsPrinted sessions s keeps made_old made_new old new report) =
    subst (λ (o : Option (List ℕ)). IfOk c.printed.result (IsPrinted sessions s keeps made_old made_new o new report))
    (ap (λ o. g.W.Write.contents (inner o)) (c.in_ok-scenario.ensures.unwritten (ap is_ok c.in-Ok.is))) c.printed.ensures.printed in
    let left : IfOk c.printed.result (Ended sessions s keeps made_old made_new old new) =
    printed sessions s keeps made_old made_new old new served report c.printed.result c.served-served.ensures c.traced-report.ensures.report gained in
    record {
      ended = ended sessions s keeps made_old made_new old new c.printed.result bytes read c.printed.ensures.status left;
      traced = ended_traced sessions s keeps made_old made_new old new c.printed.result bytes read left;
      untouched = c.traced-report.ensures.untouched;
      faulty = λ is. grind (arith, c.printed.ensures.status, is);
      heard = search rules;
    }
