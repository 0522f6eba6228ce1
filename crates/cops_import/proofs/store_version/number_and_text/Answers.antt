use Rattle.std.proofs.Common.{ap, ◌∙◌, arith}
use Rattle.serde_json.specs.Find.{as_array}
use Rattle.cops_json.specs.Json.{number_json, text_json}
use Rattle.cops_import.proofs.Asked.{two_items}
use Rattle.cops_import.proofs.store_version.number_and_text.Goals as goal

pub returns-then-len-ne2-clause-none : goal.returns-then-len-ne2-clause-none
returns-then-len-ne2-clause-none c = λ form n bytes e.
    let reported = rw c.in_ok-items.ensures.ok_part at c.as_array.ensures in
    let two = two_items c.in_ok-items.items.now.items (number_json n) (text_json bytes) (reported ∙ ap as_array e) in
    omega (arith, two, c.len.ensures)
