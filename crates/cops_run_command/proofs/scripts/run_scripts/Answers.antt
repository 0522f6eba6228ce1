use Rattle.std.proofs.Common.{List, Option, map, refl, subst, sym}
use Rattle.cops_core.specs.declared.event.Event.{Event}
use Rattle.cops_types.specs.Verdicts.{HasAcceptedVerdict}
use Rattle.cops_trace.specs.Text.{sessions_of}
use Rattle.cops_run_command.specs.Lines.{client_lines}
use Rattle.cops_run_command.specs.Running.{IsRunOf, IsScriptRun}
use Rattle.cops_run_command.proofs.Left.{if_ok_both, left_of}
use Rattle.cops_run_command.proofs.scripts.run_scripts.Goals as goal

pub returns-in-Ok-clause-left : goal.returns-in-Ok-clause-left
returns-in-Ok-clause-left g c =
    let s = c.args.scenario in
    let run = c.in-Ok.run' in
    let lines = client_lines run.outcomes.items in
    let scripts : IsScriptRun s lines run.trace = record {
      books = map (λ b. b.items) run.entries.items;
      events = run.events.items;
      outcomes = run.outcomes.items;
      ran = rw c.in-Ok.is at c.run_live-ran.ensures.ok;
      lines_are = refl;
    } in
    let ran = subst (λ (events : Option (List Event)). IsRunOf s events lines run.trace) (sym c.requires) scripts in
    let accepted : HasAcceptedVerdict (sessions_of run.trace) = rw c.in-Ok.is at c.run_live-ran.ensures.accepted in
    if_ok_both c.left_of-ran.result (λ left trace reported. left_of s left run.trace lines ran accepted trace reported) c.left_of-ran.ensures.trace c.left_of-ran.ensures.text
