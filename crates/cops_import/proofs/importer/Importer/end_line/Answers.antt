use Rattle.std.proofs.Common.{◌≤◌, refl, rules}
use Rattle.cops_import.proofs.Steps.{line_ended, stopped_endless, stopped_here}
use Rattle.cops_import.proofs.importer.Importer.end_line.Goals as goal

pub returns-in_default-clause-err : goal.returns-in_default-clause-err
returns-in_default-clause-err g c = λ from fed u.
    let many : 18446744073709551615 ≤ c.args.self.now.ended = search rules in
    stopped_endless g.W.Write.contents from fed _ c.args.self.now u many refl

pub returns-in-Ok-clause-ok : goal.returns-in-Ok-clause-ok
returns-in-Ok-clause-ok g c = λ from fed u.
    let took = c.in-Ok.ensures.ok from u.given u.taken in
    line_ended g.W.Write.contents from fed c.args.self.now _ c.in-Some.number took.0 u (search rules) took.1
    (record { ops = record { names = took.2.ops.names; few = took.2.ops.few; operations = took.2.ops.operations; wrote = took.2.ops.wrote }; sighted = took.2.sighted; unknown = took.2.unknown; listed = took.2.listed })
    c.clear.ensures.items refl c.in-Ok.ensures.rules

pub returns-in-Err-clause-err : goal.returns-in-Err-clause-err
returns-in-Err-clause-err g c = λ from fed u.
    stopped_here g.W.Write.contents from fed c.args.self.now c.in-Some.number c.in-Err.fault _ u (search rules) (c.in-Err.ensures.stop from u.given u.taken) (c.in-Err.ensures.err from u.given u.taken)
