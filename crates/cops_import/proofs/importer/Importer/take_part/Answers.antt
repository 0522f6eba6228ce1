use Rattle.std.proofs.Common.{refl, ◌++◌}
use Rattle.cops_import.proofs.Steps.{part_taken, stopped_short}
use Rattle.cops_import.proofs.importer.Importer.take_part.Goals as goal

pub returns-in-Err-clause-err : goal.returns-in-Err-clause-err
returns-in-Err-clause-err g c = λ from fed u. stopped_short g.W.Write.contents from fed (fed ++ c.args.part.now) c.args.self.now u

pub returns-in-Ok-clause-ok : goal.returns-in-Ok-clause-ok
returns-in-Ok-clause-ok g c = λ from fed u.
    part_taken g.W.Write.contents from fed c.args.part.now c.args.self.now _ u c.in-Ok.ensures.items c.requires refl refl
    (record { ops = record { names = u.taken.ops.names; few = u.taken.ops.few; operations = u.taken.ops.operations; wrote = u.taken.ops.wrote }; sighted = u.taken.sighted; unknown = u.taken.unknown; listed = u.taken.listed })
