use Rattle.std.proofs.Common.{refl, arith}
use Rattle.std.proofs.lemmas.Option.{slice_get_within}
use Rattle.cops_audit.proofs.table.is_doubled.Goals as goal

pub bounds-are_doubled-number : goal.bounds-are_doubled-number
bounds-are_doubled-number c =
    let at = (c.in-Some.ensures.number c.in-Some.number).0 refl in
    omega (arith, slice_get_within c.args.history.now.puts c.in-Some.number c.args.name at, c.requires.whole)

pub returns : goal.returns
returns c = c.requires.each c.in-Some.number c.args.name ((c.in-Some.ensures.number c.in-Some.number).0 refl)
