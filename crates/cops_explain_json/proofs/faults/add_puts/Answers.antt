use Rattle.std.proofs.Common.{◌≡◌, ◌-◌, arith, length, min, rules}
use Rattle.std.proofs.lemmas.List.{take_min}
use Rattle.cops_explain.specs.declared.limits.TheConstants.{MOST_OTHERS}
use Rattle.cops_explain_json.proofs.faults.add_puts.Goals as goal

pub returns : goal.returns
returns c =
    let others = c.args.others.now in
    let listed : c.min-listed.result ≡ min MOST_OTHERS (length others) = search rules in
    let more : length others - min MOST_OTHERS (length others) ≡ length others - MOST_OTHERS = omega arith in
    rw (c.in_ok-add_list.ensures, c.in_ok-list.ensures, listed, take_min MOST_OTHERS others, more) at c.add_number.ensures
