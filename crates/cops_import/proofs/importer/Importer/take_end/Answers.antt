use Rattle.std.proofs.Common.{[], ◌∷◌, ◌++◌, refl}
use Rattle.cops_import.proofs.Steps.{stopped_as, stopped_more}
use Rattle.cops_import.proofs.importer.Importer.take_end.Goals as goal

pub returns-in-Err-clause-err : goal.returns-in-Err-clause-err
returns-in-Err-clause-err g c = λ from fed u.
    let part = c.args.part.now in
    stopped_more g.W.Write.contents from (fed ++ part) (10 ∷ []) (fed ++ part ++ 10 ∷ []) c.in-Err.fault _ _ _ refl (c.in-Err.ensures.err from fed u)

pub returns-in-Err-end_line-clause-err : goal.returns-in-Err-end_line-clause-err
returns-in-Err-end_line-clause-err g c = λ from fed u.
    let part = c.args.part.now in
    stopped_as g.W.Write.contents from (fed ++ part ++ 10 ∷ []) c.in-Err-end_line.fault _ _ _ _ c.end_line.new.self.writer.writer c.in-Ok.ensures.rules c.in-Ok.ensures.expected
    (c.in-Err-end_line.ensures.err from (fed ++ part) (c.in-Ok.ensures.ok from fed u))
