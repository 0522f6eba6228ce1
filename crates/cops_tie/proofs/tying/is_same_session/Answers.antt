use Rattle.std.proofs.Common.{◌≡◌, ◌<◌, [], Some, get_or, length, slice_index_or, sym, ◌∙◌, arith}
use Rattle.std.proofs.lemmas.List.{take_more_same}
use Rattle.std.proofs.lemmas.Option.{slice_get-get_or}
use Rattle.cops_types.specs.Histories.{Operation, missed}
use Rattle.cops_tie.proofs.tying.is_same_session.Goals as goal

pub loop-index-preserved : goal.loop-index-preserved
loop-index-preserved c =
    let one = slice_index_or c.args.one.now.sessions c.args.client [] in
    let other = slice_index_or c.args.other.now.sessions c.args.client [] in
    let i = c.loop-index.index in
    let none : Operation = missed [] in
    let inside : i < length one = omega (arith, c.loop-index-test.true, c.session_len-operations.ensures.count) in
    let within : i < length other = omega (arith, inside, c.if-operations-session_len.false, c.session_len.ensures.count, c.session_len-operations.ensures.count) in
    let both : Some (get_or one i none) ≡ Some (get_or other i none) = sym (slice_get-get_or one i none inside) ∙ c.is_same_op.ensures.0 c.if-not-is_same_op.false ∙ slice_get-get_or other i none within in
    let same : get_or one i none ≡ get_or other i none = cc in
    take_more_same one other i none inside within c.loop-index.invariant same
