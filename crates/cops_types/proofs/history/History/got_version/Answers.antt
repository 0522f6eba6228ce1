use Rattle.std.specs.Prelude.{option_copied}
use Rattle.std.proofs.Common.{[], get_or, sym, ap}
use Rattle.cops_types.specs.Histories.{read}
use Rattle.cops_types.specs.Entries.{referred, reported, value_put}
use Rattle.cops_types.proofs.Sources.{no_got_there, none_reported, reported_as}
use Rattle.cops_types.proofs.history.History.got_version.Goals as goal

pub returns-in_err-version-clause-none : goal.returns-in_err-version-clause-none
returns-in_err-version-clause-none c =
    rw (c.from_residual.ensures, ← c.self.view_is) (λ v gets. let none = none_reported c.self.inside.keys.keys c.self.inside.entries.all c.args.name c.in_err-version.ensures.entry in let there = gets.2 in cc)

pub returns-in-Got-clause-got : goal.returns-in-Got-clause-got
returns-in-Got-clause-got c =
    let keys = c.self.inside.keys.keys in
    let all = c.self.inside.entries.all in
    let key = get_or keys c.in-Got.key [] in
    rw (← c.self.view_is) (key, option_copied c.in-Got.value, sym (reported_as keys all c.args.name (referred c.in_ok-version.field-0) (read key (option_copied c.in-Got.value) c.in-Got.version.now) c.in_ok-version.ensures.entry (ap (λ e. reported keys all (referred e)) c.in-Got.is)))

pub returns-in-Sourced-clause-got : goal.returns-in-Sourced-clause-got
returns-in-Sourced-clause-got c =
    let keys = c.self.inside.keys.keys in
    let all = c.self.inside.entries.all in
    let key = get_or keys c.in-Sourced.key [] in
    let value = value_put all c.in-Sourced.put.name in
    rw (← c.self.view_is) (key, value, sym (reported_as keys all c.args.name (referred c.in_ok-version.field-0) (read key value c.in-Sourced.version.now) c.in_ok-version.ensures.entry (ap (λ e. reported keys all (referred e)) c.in-Sourced.is)))

pub returns-in_default-clause-none : goal.returns-in_default-clause-none
returns-in_default-clause-none c =
    rw (← c.self.view_is)
    (no_got_there c.self.inside.keys.keys c.self.inside.entries.all c.args.name c.in_ok-version.field-0 c.in_ok-version.ensures.entry (λ k x v e. c.in_default.not-Got k x v e) (λ k p x v e. c.in_default.not-Sourced k p x v e))
