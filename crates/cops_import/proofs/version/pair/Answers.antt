use Rattle.std.proofs.Common.{ap, ◌∙◌, arith}
use Rattle.serde_json.specs.Find.{as_array}
use Rattle.cops_json.specs.Json.{number_json}
use Rattle.cops_import.proofs.Asked.{two_items}
use Rattle.cops_import.proofs.version.pair.Goals as goal

pub returns-in_default-clause-none : goal.returns-in_default-clause-none
returns-in_default-clause-none c = λ a b e.
    let reported = rw c.in_ok-items.ensures.ok_part at c.as_array.ensures in
    let two = two_items c.in_ok-items.items.now.items (number_json a) (number_json b) (reported ∙ ap as_array e) in
    omega (arith, two, c.as_slice.ensures.len, c.in_default.len_below)

pub returns-in_default-2-clause-none : goal.returns-in_default-2-clause-none
returns-in_default-2-clause-none c = λ a b e.
    let reported = rw c.in_ok-items.ensures.ok_part at c.as_array.ensures in
    let two = two_items c.in_ok-items.items.now.items (number_json a) (number_json b) (reported ∙ ap as_array e) in
    omega (arith, two, c.as_slice.ensures.len, c.in_default.len_at_least)
