use Rattle.std.proofs.Common.{ap, refl, subst, sym, ◌∙◌}
use Rattle.cops_outcomes.specs.Sightings.{ASightings, IsSighted}
use Rattle.cops_import.specs.Lines.{operations_of, ops_of}
use Rattle.cops_import.specs.declared.rules.Rules.{Rules}
use Rattle.cops_import.proofs.Records.{left_here}
use Rattle.cops_import.proofs.Taking.{known_taken}
use Rattle.cops_import.proofs.importer.Importer.take_known.Goals as goal

pub returns-in-Ok-see-clause-ok : goal.returns-in-Ok-see-clause-ok
returns-in-Ok-see-clause-ok g c = λ from given h.
    let wrote = c.in-Ok.ensures.ok from (ops_of given) h.ops in
    let others = c.in-Ok.ensures.others in
    let all = operations_of (ops_of given) in
    let sighted : IsSighted c.write.new.self.sightings all = subst (λ (s : ASightings). IsSighted s all) (sym others.0) h.sighted in
    known_taken g.W.Write.contents from given c.args.reported c.args.self.now _ h
    (record { names = wrote.names; few = wrote.few; operations = wrote.operations; wrote = wrote.wrote })
    (c.in-Ok-see.ensures.seen all sighted) others.1 (c.in-Ok-see.ensures.writes ∙ ap (λ (s : ASightings). s.writes) others.0) (ap (λ (r : Rules). r.format) c.in-Ok.ensures.rules)

pub returns-in-Err-see-clause-err : goal.returns-in-Err-see-clause-err
returns-in-Err-see-clause-err g c = λ from given h. left_here g.W.Write.contents from _ c.write.new.self.writer _ (c.in-Ok.ensures.ok from (ops_of given) h.ops).wrote refl
