use Rattle.std.proofs.Common.{[], ◌∷◌, ◌++◌, ◌∙◌, ℕ, List, append-nil, ap, subst}
use Rattle.cops_import.specs.Underway.{IsUnderway}
use Rattle.cops_import.proofs.Steps.{after_line, all_of, cut_off, stopped_as, stopped_more}
use Rattle.cops_import.proofs.importer.Importer.take_piece.Goals as goal

pub returns-in-Err-clause-err : goal.returns-in-Err-clause-err
returns-in-Err-clause-err g c = λ from fed u.
    let read = c.loop-part.invariant.read in
    let piece = c.args.piece.now in
    let part = c.in-Some.part.now in
    let behind = c.in-Some.behind.now in
    let front = read.0 ++ part ++ 10 ∷ [] in
    let is = cut_off piece read.0 c.loop-part.rest.now part behind read.1 c.in-Some.ensures.some.1 in
    let whole = ap (λ (l : List ℕ). l ++ behind) (after_line fed read.0 part) ∙ all_of fed piece front behind is in
    let stop = stopped_more g.W.Write.contents from _ behind (fed ++ piece) c.in-Err.fault _ _ _ whole (c.in-Err.ensures.err from (fed ++ read.0) (read.2 from fed u)) in
    stopped_as g.W.Write.contents from (fed ++ piece) c.in-Err.fault _ _ _ _ c.take_end.new.self.writer.writer c.loop-part.invariant.rules c.loop-part.invariant.expected stop

pub loop-part-preserved : goal.loop-part-preserved
loop-part-preserved g c =
    let read = c.loop-part.invariant.read in
    let part = c.in-Some.part.now in
    record {
      read = (
        read.0 ++ part ++ 10 ∷ [],
        cut_off c.args.piece.now read.0 c.loop-part.rest.now part c.in-Some.behind.now read.1 c.in-Some.ensures.some.1,
        λ from fed u. subst (λ (l : List ℕ). IsUnderway g.W.Write.contents from l c.take_end.new.self) (after_line fed read.0 part) (c.in-Ok.ensures.ok from (fed ++ read.0) (read.2 from fed u)),
      );
      expected = c.in-Ok.ensures.expected ∙ c.loop-part.invariant.expected;
      rules = c.in-Ok.ensures.rules ∙ c.loop-part.invariant.rules;
    }

pub returns-in-Err-take_part-clause-err : goal.returns-in-Err-take_part-clause-err
returns-in-Err-take_part-clause-err g c = λ from fed u.
    let read = c.loop-part.invariant.read in
    let piece = c.args.piece.now in
    let rest = c.loop-part.rest.now in
    let whole = append-nil ((fed ++ read.0) ++ rest) ∙ all_of fed piece read.0 rest read.1 in
    let stop = stopped_more g.W.Write.contents from _ [] (fed ++ piece) c.in-Err-take_part.fault _ _ _ whole (c.in-Err-take_part.ensures.err from (fed ++ read.0) (read.2 from fed u)) in
    stopped_as g.W.Write.contents from (fed ++ piece) c.in-Err-take_part.fault _ _ _ _ c.take_part.new.self.writer.writer c.loop-part.invariant.rules c.loop-part.invariant.expected stop
