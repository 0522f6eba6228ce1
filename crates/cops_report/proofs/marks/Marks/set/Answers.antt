use Rattle.std.proofs.Common.{◌<◌, length, map, arith, refl}
use Rattle.std.proofs.lemmas.List.{length-map}
use Rattle.cops_report.specs.Marks.{HasPlace}
use Rattle.cops_report.proofs.Tables.{marks_of, marked_session, place_client}
use Rattle.cops_report.proofs.marks.Marks.set.Goals as goal

pub returns : goal.returns
returns c =
    let xs = c.self.inside.sessions.items in
    let there : HasPlace (map marks_of xs) c.args.name = rw c.self.view_is c.requires in
    let inside : c.args.name.client < length xs = omega (arith, place_client (map marks_of xs) c.args.name there, length-map xs marks_of) in
    rw (← c.self.view_is) (marked_session xs c.args.name c.index_mut-session.result.now _ c.args.mark inside c.index_mut-session.ensures.value refl)
