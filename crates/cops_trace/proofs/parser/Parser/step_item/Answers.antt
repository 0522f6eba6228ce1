use Rattle.std.proofs.Common.{Option, Ok, subst}
use Rattle.std.proofs.lemmas.Result.{err_from_is_err_and}
use Rattle.cops_trace.specs.declared.found.Item.{Item}
use Rattle.cops_trace.specs.Parsing.{with_item}
use Rattle.cops_trace.specs.Reading.{GivesNext}
use Rattle.cops_trace.proofs.Underway.{step_begun, step_err, step_room, step_took, step_waited}
use Rattle.cops_trace.proofs.parser.Parser.step_item.Goals as goal

pub returns-in_err-item : goal.returns-in_err-item
returns-in_err-item g c = λ t taken counts.
    let p = err_from_is_err_and c.from_residual.result c.from_residual.ensures.1 in
    rw (p.1, p.2) (step_err t c.args.self.now.reader c.next.new.self c.in_err-item.field-0.0 counts c.in_err-item.ensures.next)

pub returns-in_default : goal.returns-in_default
returns-in_default g c = λ t taken counts.
    let given = subst (λ (o : Option Item). GivesNext c.args.self.now.reader (Ok o) c.next.new.self) c.in_default.is c.in_ok-item.ensures.next in
    let waits = step_waited t c.args.self.now.reader c.next.new.self counts given in
    (record { trace = t; taken = taken; counts = waits.0 }, waits.1)

pub take-requires : goal.take-requires
take-requires g c =
    let u = c.requires in
    let given = subst (λ (o : Option Item). GivesNext c.args.self.now.reader (Ok o) c.next.new.self) c.in-Some.is c.in_ok-item.ensures.next in
    (u.trace, u.taken, step_room u.trace c.args.self.now.reader c.next.new.self c.in-Some.item u.counts given)

pub returns-in-Ok : goal.returns-in-Ok
returns-in-Ok g c = λ t taken counts.
    let given = subst (λ (o : Option Item). GivesNext c.args.self.now.reader (Ok o) c.next.new.self) c.in-Some.is c.in_ok-item.ensures.next in (
      record { trace = with_item c.in-Some.item t; taken = c.in-Ok.ensures t taken; counts = step_begun t c.args.self.now.reader c.next.new.self c.in-Some.item counts given },
      step_took t c.args.self.now.reader c.next.new.self c.in-Some.item counts given,
    )
