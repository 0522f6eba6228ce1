use Rattle.std.proofs.Common.{List, subst, map}
use Rattle.std.specs.Global.{Vec}
use Rattle.cops_types.specs.Histories.{Sessions}
use Rattle.cops_trace.specs.Text.{sessions_of}
use Rattle.cops_node.specs.declared.entry.Entry.{Entry}
use Rattle.cops_report.specs.Reported.{IsReportOf}
use Rattle.cops_tie.specs.Untied.{IsTied}
use Rattle.cops_serve.proofs.ending.reported_in.Goals as goal

pub returns-in-Ok-report_of : goal.returns-in-Ok-report_of
returns-in-Ok-report_of c =
    let items : Vec Entry → List Entry = λ b. b.items in
    let events = c.in-Ok.run'.events.items in
    let report = c.in-Ok-report_of.ensures in
    record {
      events = events;
      tied = subst (λ (books : List (Vec Entry)). IsTied c.args.setting.now (map items books) (sessions_of c.args.closed.now.trace) events) c.deref.ensures.value
          (c.in-Ok.run'.world.world, c.in-Ok.ensures.tied.0);
      accepted = c.in-Ok.ensures.accepted;
      verdict = report.0;
      is_report = subst (λ (s : Sessions). IsReportOf s report.0 c.in-Ok-report_of.report.items) c.history.ensures.sessions report.1;
    }
