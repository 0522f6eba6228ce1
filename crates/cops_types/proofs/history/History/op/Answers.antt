use Rattle.std.proofs.Common.{[], ap, get_or, ◌∙◌, sym}
use Rattle.cops_types.specs.Entries.{referred}
use Rattle.cops_types.proofs.Sources.{none_reported, reported_with}
use Rattle.cops_types.proofs.Reporting.{limit_at}
use Rattle.cops_types.proofs.history.History.op.Goals as goal

pub returns-in_err-entry-clause-operation : goal.returns-in_err-entry-clause-operation
returns-in_err-entry-clause-operation c =
    rw (c.from_residual.ensures, ← c.self.view_is) (none_reported c.self.inside.keys.keys c.self.inside.entries.all c.args.name c.in_err-entry.ensures.entry)

pub returns-clause-operation : goal.returns-clause-operation
returns-clause-operation c =
    let keys = c.self.inside.keys.keys in
    let all = c.self.inside.entries.all in
    rw (c.with_key.ensures, ← c.self.view_is) (reported_with keys all c.args.name c.in_ok-entry.entry c.key-2.result.now c.in_ok-entry.ensures.entry c.in_ok-entry.ensures.value
    (c.key-2.ensures ∙ ap (λ n. get_or keys n []) c.key.ensures))

pub returns-clause-limit : goal.returns-clause-limit
returns-clause-limit c = limit_at c.self.inside.keys.keys c.self.inside.entries.all c.args.name (referred c.in_ok-entry.entry) c.self.invariant.limits (sym c.in_ok-entry.ensures.entry)
