use Rattle.std.proofs.Common.{◌≡◌, map, length, sym, ap, ◌∙◌, rules, arith}
use Rattle.std.proofs.lemmas.List.{length-map}
use Rattle.serde_json.specs.Data.{Data}
use Rattle.serde_json.specs.View.{view}
use Rattle.cops_scenario.specs.File.{list_json}
use Rattle.cops_scenario.proofs.Forms.{same_list}
use Rattle.cops_scenario.proofs.field.list.Goals as goal

pub returns-then-len-most-clause-none : goal.returns-then-len-most-clause-none
returns-then-len-most-clause-none c = λ items few e.
    let listed = c.in_ok-items.items.now.items in
    let reported : view c.args.json.now ≡ list_json (map view listed) = search rules in
    let same : map view listed ≡ items = same_list (map view listed) items (sym reported ∙ e) in
    let many : length (map view listed) ≡ length listed = length-map listed view in
    omega (arith, c.len.ensures, c.if-len-most.true, ap (length {A = Data}) same)
