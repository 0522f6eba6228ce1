-- Each subcommand adds its shape, as none has a global argument.
use Rattle.std.proofs.Common.{◌≡◌, ◌∙◌, ap, ap₂, false}
use Rattle.std.proofs.lemmas.Result.{IfOk-weaker}
use Rattle.clap.specs.Words.{AddsSubcommand, App, app_of, with_subcommand}
use Rattle.clap.specs.declared.builder.command.Command.{Command}
use Rattle.clap.specs.declared.builder.command.Command.TheViews.{out-Command}
use Rattle.cops_command_line.specs.Commands.{cops_app}
use Rattle.cops_command_line.proofs.command.cops_command.Goals as goal

added : {old sub new : Command} {a b : App} → AddsSubcommand old sub new → app_of old ≡ a → (out-Command sub).has_globals ≡ false → app_of sub ≡ b
    → app_of new ≡ with_subcommand a b.top
added adds old_is local sub_is = adds.shape local ∙ ap₂ with_subcommand old_is (ap (λ (x : App). x.top) sub_is)

pub returns : goal.returns
unfolding cops_app
returns c =
    let audit = c.in_ok-audit_command.ensures in
    let explain = c.in_ok-explain_command.ensures in
    let check = c.in_ok-check_command.ensures in
    let show = c.in_ok-show_command.ensures in
    let import_is = c.in_ok-import_command.ensures in
    let convert = c.in_ok-convert_command.ensures in
    let run = c.in_ok-run_command.ensures in
    let serve = c.in_ok-serve_command.ensures in
    let with_audit = added c.in_ok-subcommand.ensures c.in_ok-top_command.ensures.app audit.local audit.app in
    let with_explain = added c.in_ok-subcommand-2.ensures with_audit explain.local explain.app in
    let with_check = added c.in_ok-subcommand-3.ensures with_explain check.local check.app in
    let with_show = added c.in_ok-subcommand-4.ensures with_check show.local show.app in
    let with_import = added c.in_ok-subcommand-5.ensures with_show import_is.local import_is.app in
    let with_convert = added c.in_ok-subcommand-6.ensures with_import convert.local convert.app in
    let with_run = added c.in_ok-subcommand-7.ensures with_convert run.local run.app in
    IfOk-weaker c.subcommand-8.result _ _ (λ r adds. added adds with_run serve.local serve.app) c.subcommand-8.ensures
