use Rattle.cops_import.proofs.imported.Imported.reported.Goals as goal

pub returns : goal.returns
returns g c = record { ok = rw c.deref.ensures.value at c.reported.ensures }
