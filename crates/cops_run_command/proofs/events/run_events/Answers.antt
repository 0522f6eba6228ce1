use Rattle.std.proofs.Common.{◌∙◌, ap, sym, subst, length, Option, List}
use Rattle.cops_scenario.specs.Scenario.{setting_of}
use Rattle.cops_core.specs.declared.event.Event.{Event}
use Rattle.cops_core.specs.World.{opening}
use Rattle.cops_run_command.specs.Running.{IsRunOf}
use Rattle.cops_run_command.proofs.Recording.{run_len, run_of}
use Rattle.cops_run_command.proofs.Left.{answers_order, event_run, left_of}
use Rattle.cops_run_command.proofs.events.run_events.Goals as goal

pub arrivals-requires : goal.arrivals-requires
arrivals-requires c =
    let s = setting_of c.args.scenario.now in
    let a = c.in_ok-outcomes.ensures in
    let outcomes = c.in_ok-outcomes.outcomes.items in
    ap length c.deref-2.ensures.value ∙ run_len s (opening s) c.args.events.now outcomes a.0 (run_of s (opening s) c.args.events.now outcomes a.0 a.1)

pub unreachable-requires : goal.unreachable-requires
unreachable-requires c =
    let order = answers_order (setting_of c.args.scenario.now) c.args.events.now c.in_ok-outcomes.outcomes.items c.in_ok-outcomes.history.sessions c.in_ok-arrivals.arrivals.items c.in_ok-outcomes.ensures
    (rw c.deref-2.ensures.value at c.in_ok-arrivals.ensures) in
    let some = (rw (c.in-None.is, c.format.ensures.value) at c.in_ok-trace.ensures.some).1 order in
    cc

pub returns : goal.returns
returns c =
    let s = c.args.scenario.now in
    let lines = c.in_ok-lines.lines.items in
    let trace = c.in-Some.trace in
    let run = event_run s c.args.events.now c.in_ok-outcomes.outcomes.items lines c.in_ok-outcomes.history.sessions c.in_ok-arrivals.arrivals.items trace c.in_ok-outcomes.ensures
    (rw c.deref-2.ensures.value at c.in_ok-arrivals.ensures) (rw (c.in-Some.is, c.format.ensures.value) at c.in_ok-trace.ensures.trace) (rw c.deref.ensures.value at c.in_ok-lines.ensures) in
    left_of s c.in_ok-reported_left-in-Some.field-0 trace lines (subst (λ (events : Option (List Event)). IsRunOf s events lines trace) (sym c.requires) run.0) run.1
    c.in_ok-reported_left-in-Some.ensures.trace c.in_ok-reported_left-in-Some.ensures.text
