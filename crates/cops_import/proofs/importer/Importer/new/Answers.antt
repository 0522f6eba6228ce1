use Rattle.std.proofs.Common.{◌<◌, ◌^◌, refl, rules}
use Rattle.std.proofs.lemmas.List.Elements.{All-nil}
use Rattle.cops_import.proofs.Records.{left_new, left_nothing, ops_none}
use Rattle.cops_import.proofs.Steps.{underway_none}
use Rattle.cops_import.proofs.importer.Importer.new.Goals as goal

pub returns-in_default-clause-err : goal.returns-in_default-clause-err
returns-in_default-clause-err g c = left_nothing g.W.Write.contents c.args.trace

pub returns-in-Ok-new-clause-ok : goal.returns-in-Ok-new-clause-ok
returns-in-Ok-new-clause-ok g c =
    let few : c.args.expected.clients < 2 ^ 16 = search rules in
    let ops =
    ops_none g.W.Write.contents c.args.trace c.args.rules.format _ c.new-in-Ok-new.ensures refl few c.in-Ok-new.ensures.ok c.in-Ok-new.ensures.counts.0 c.in-Ok-new.ensures.counts.1
    c.in-Ok-new.ensures.heard in
    underway_none g.W.Write.contents c.args.trace _
    (record { ops = ops; sighted = c.in-Ok.ensures.nothing; unknown = c.new-in-Ok-new-2.ensures.items; listed = All-nil _ }) c.new-in-Ok-new-3.ensures.items refl

pub returns-in-Err-clause-err : goal.returns-in-Err-clause-err
returns-in-Err-clause-err g c =
    let few : c.args.expected.clients < 2 ^ 16 = search rules in
    rw c.from.ensures
    (left_new g.W.Write.contents c.args.trace c.in-Err.unwritten.writer c.args.rules.format c.args.expected.clients c.in-Err.unwritten.fault few c.in-Err.ensures.err c.in-Err.ensures.failed)
