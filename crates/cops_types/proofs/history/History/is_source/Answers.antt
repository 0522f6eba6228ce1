use Rattle.std.specs.Prelude.{option_copied}
use Rattle.std.proofs.Common.{◌≡◌, [], get_or, Some, None, sym, ap, ◌∙◌, subst, true≢false}
use Rattle.cops_types.specs.Histories.{read}
use Rattle.cops_types.specs.Entries.{IsSound, referred, reported, value_put}
use Rattle.cops_types.proofs.Sources.{none_reported, reported_as, source_there, source_found, no_source_there}
use Rattle.cops_types.proofs.Reporting.{limit_at}
use Rattle.cops_types.proofs.history.History.is_source.Goals as goal

pub returns-in_default-clause-source : goal.returns-in_default-clause-source
returns-in_default-clause-source c =
    let none = none_reported c.self.inside.keys.keys c.self.inside.entries.all c.args.got c.in_default.ensures.entry in
    rw (← c.self.view_is) ((λ no. absurd (true≢false (sym no))), (λ s. let gone : None ≡ Some (read s.key s.content s.version) = none ∙ s.got in cc))

pub is_same_put-requires : goal.is_same_put-requires
is_same_put-requires c =
    let sound = c.self.invariant.sound c.args.got (referred c.in-Some.entry) (sym c.in-Some.ensures.entry) in
    (subst (λ e. IsSound c.self.inside.keys.keys c.self.inside.entries.all (referred e)) c.in-Sourced.is sound).source

pub returns-in-Sourced-clause-source : goal.returns-in-Sourced-clause-source
returns-in-Sourced-clause-source c =
    let keys = c.self.inside.keys.keys in
    let all = c.self.inside.entries.all in
    let value = value_put all c.in-Sourced.source.name in
    let sound = subst (λ e. IsSound keys all (referred e)) c.in-Sourced.is (c.self.invariant.sound c.args.got (referred c.in-Some.entry) (sym c.in-Some.ensures.entry)) in
    let got = reported_as keys all c.args.got (referred c.in-Some.entry) (read (get_or keys c.in-Sourced.key []) value c.in-Sourced.version.now) c.in-Some.ensures.entry (ap (λ e. reported keys all (referred e)) c.in-Sourced.is) in
    rw (← c.self.view_is) (
      (λ yes. source_there keys all c.args.put c.args.got c.in-Sourced.key value c.in-Sourced.version.now got (c.is_same_put.ensures.0 yes)),
      (λ s. c.is_same_put.ensures.1 (source_found keys all c.args.put c.args.got c.in-Sourced.key value c.in-Sourced.version.now got c.self.invariant.sound c.self.invariant.distinct sound.key s)),
    )

pub returns-in-Sourced-clause-limit : goal.returns-in-Sourced-clause-limit
returns-in-Sourced-clause-limit c = λ yes. limit_at c.self.inside.keys.keys c.self.inside.entries.all c.args.put _ c.self.invariant.limits (c.is_same_put.ensures.0 yes)

pub returns-in-Got-clause-source : goal.returns-in-Got-clause-source
returns-in-Got-clause-source c =
    let keys = c.self.inside.keys.keys in
    let all = c.self.inside.entries.all in
    let sound = subst (λ e. IsSound keys all (referred e)) c.in-Got.is (c.self.invariant.sound c.args.got (referred c.in-Some.entry) (sym c.in-Some.ensures.entry)) in
    let got = reported_as keys all c.args.got (referred c.in-Some.entry) (read (get_or keys c.in-Got.key []) (option_copied c.in-Got.value) c.in-Got.version.now) c.in-Some.ensures.entry (ap (λ e. reported keys all (referred e)) c.in-Got.is) in
    rw (← c.self.view_is) (
      (λ yes. source_there keys all c.args.put c.args.got c.in-Got.key (option_copied c.in-Got.value) c.in-Got.version.now got (c.is_put.ensures.0 yes)),
      (λ s. c.is_put.ensures.1 (source_found keys all c.args.put c.args.got c.in-Got.key (option_copied c.in-Got.value) c.in-Got.version.now got c.self.invariant.sound c.self.invariant.distinct sound.key s)),
    )

pub returns-in-Got-clause-limit : goal.returns-in-Got-clause-limit
returns-in-Got-clause-limit c = λ yes. limit_at c.self.inside.keys.keys c.self.inside.entries.all c.args.put _ c.self.invariant.limits (c.is_put.ensures.0 yes)

pub returns-in-Put-clause-source : goal.returns-in-Put-clause-source
returns-in-Put-clause-source c =
    rw (← c.self.view_is) (
      (λ no. absurd (true≢false (sym no))),
      (λ s. absurd (no_source_there c.self.inside.keys.keys c.self.inside.entries.all c.args.put c.args.got c.in-Some.entry c.in-Some.ensures.entry c.in-Put.is s)),
    )
