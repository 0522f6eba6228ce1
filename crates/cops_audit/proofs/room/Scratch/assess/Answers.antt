use Rattle.std.proofs.Common.{◌≡◌, true, inl, sym, subst}
use Rattle.cops_audit.specs.Tables.{IsPutTable}
use Rattle.cops_audit.proofs.Classes.{some_doubled}
use Rattle.cops_audit.proofs.room.Scratch.assess.Goals as goal

pub returns-then-not-is_rising-clause-so_far : goal.returns-then-not-is_rising-clause-so_far
returns-then-not-is_rising-clause-so_far c =
    let h = c.args.history.now.sessions in
    let table = subst (IsPutTable h) (sym c.as_slice.ensures.value) c.in_ok-set_puts.ensures.puts in
    let falls = c.is_rising.ensures.equal (λ up. let t : c.is_rising.result ≡ true = up in cc) in
    inl (some_doubled h c.as_slice.result.now table falls.0 falls.1 falls.2)

pub assess_gets-requires-clause-above : goal.assess_gets-requires-clause-above
assess_gets-requires-clause-above c = c.are_puts_above.ensures.above c.if-not-are_puts_above.false
