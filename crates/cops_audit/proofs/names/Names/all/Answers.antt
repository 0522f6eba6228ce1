use Rattle.std.proofs.Common.{◌+◌, ◌-◌, ◌∙◌, arith}
use Rattle.std.proofs.lemmas.List.{take_all}
use Rattle.cops_audit.specs.Names.{names_of}
use Rattle.cops_audit.proofs.Naming.{names_count}
use Rattle.cops_audit.proofs.names.Names.all.Goals as goal

pub returns-clause-names : goal.returns-clause-names
returns-clause-names c =
    let h = c.args.history.now.sessions in
    c.range.ensures ∙ take_all (0 + c.len.result - 0) (names_of h) (omega (arith, c.len.ensures.count, names_count h))

pub returns-clause-count : goal.returns-clause-count
returns-clause-count c = names_count c.args.history.now.sessions
