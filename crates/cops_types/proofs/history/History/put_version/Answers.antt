use Rattle.std.specs.Prelude.{option_copied}
use Rattle.std.proofs.Common.{[], get_or, sym, ap}
use Rattle.cops_types.specs.Histories.{write}
use Rattle.cops_types.specs.Entries.{referred, reported}
use Rattle.cops_types.proofs.Sources.{no_put_there, none_reported, reported_as}
use Rattle.cops_types.proofs.history.History.put_version.Goals as goal

pub returns-in_err-version-clause-none : goal.returns-in_err-version-clause-none
returns-in_err-version-clause-none c =
    rw (c.from_residual.ensures, ← c.self.view_is) (λ v puts. let none = none_reported c.self.inside.keys.keys c.self.inside.entries.all c.args.name c.in_err-version.ensures.entry in let there = puts.2 in cc)

pub returns-in-Put-clause-put : goal.returns-in-Put-clause-put
returns-in-Put-clause-put c =
    let keys = c.self.inside.keys.keys in
    let all = c.self.inside.entries.all in
    let key = get_or keys c.in-Put.key [] in
    rw (← c.self.view_is) (key, option_copied c.in-Put.value, sym (reported_as keys all c.args.name (referred c.in_ok-version.field-0) (write key (option_copied c.in-Put.value) c.in-Put.version.now) c.in_ok-version.ensures.entry (ap (λ e. reported keys all (referred e)) c.in-Put.is)))

pub returns-in_default : goal.returns-in_default
returns-in_default c =
    rw (← c.self.view_is) (record {
      put = tt;
      none = no_put_there c.self.inside.keys.keys c.self.inside.entries.all c.args.name c.in_ok-version.field-0 c.in_ok-version.ensures.entry (λ k x v e. c.in_default.not-Put k x v e);
    })
