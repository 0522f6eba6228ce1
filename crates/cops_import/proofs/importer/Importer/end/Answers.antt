use Rattle.std.proofs.Common.{ℕ, List, ap, refl, subst, ◌∙◌}
use Rattle.cops_import.specs.Lines.{operations_of, ops_of, returned_in, unknown_of}
use Rattle.cops_import.specs.Underway.{IsStopAtEnd, format_of}
use Rattle.cops_import.specs.declared.reported.UnknownPut.{UnknownPut}
use Rattle.cops_import.proofs.Ends.{begins, ended_all}
use Rattle.cops_import.proofs.Records.{left_here}
use Rattle.cops_import.proofs.Stops.{if_err, if_ok}
use Rattle.cops_import.proofs.importer.Importer.end.Goals as goal

pub returns-in_default-clause-err : goal.returns-in_default-clause-err
returns-in_default-clause-err g c = λ from given h. rw (c.give_up.ensures, c.new-ending.ensures) (left_here g.W.Write.contents from _ c.args.self.writer _ h.ops.wrote refl)

pub returns-in-Ok-take_all-clause-ok : goal.returns-in-Ok-take_all-clause-ok
returns-in-Ok-take_all-clause-ok g c = if_ok c.end.result _ _
    (λ done ended from given h.
    let i = c.args.self in
    let begun = begins g.W.Write.contents from given i c.new-ending.result c.in-Ok.outcomes h (rw c.len.ensures at c.new-ending.ensures) c.in-Ok.ensures.writes c.in-Ok.ensures.after in
    let ending = (rw c.deref.ensures.value at c.in-Ok-take_all.ensures.ok) from (ops_of given) begun in
    let format = c.in-Ok-take_all.ensures.format ∙ ap (λ e. e.writer.counts.format) c.new-ending.ensures in
    let clients = c.in-Ok-take_all.ensures.clients ∙ ap (λ e. e.clients) c.new-ending.ensures in
    ended_all g.W.Write.contents from given (format_of i) _ i.clients _ i.unknown.items c.in-Ok-take_all.outcomes.items done (ended from (ops_of given) _ ending.own h.ops.names h.ops.operations) format clients h.unknown
    ending.unknown_are)
    c.end.ensures.ok

pub returns-in-Ok-take_all-clause-err : goal.returns-in-Ok-take_all-clause-err
returns-in-Ok-take_all-clause-err g c = if_err c.end.result _ _
    (λ u left from given h.
    let i = c.args.self in
    let begun = begins g.W.Write.contents from given i c.new-ending.result c.in-Ok.outcomes h (rw c.len.ensures at c.new-ending.ensures) c.in-Ok.ensures.writes c.in-Ok.ensures.after in
    let ending = (rw c.deref.ensures.value at c.in-Ok-take_all.ensures.ok) from (ops_of given) begun in
    left from (ops_of given) _ ending.own)
    c.end.ensures.err

pub returns-in-Ok-take_all-clause-stop : goal.returns-in-Ok-take_all-clause-stop
returns-in-Ok-take_all-clause-stop g c = if_err c.end.result _ _
    (λ u stop from given h.
    let i = c.args.self in
    let all = operations_of (ops_of given) in
    let begun = begins g.W.Write.contents from given i c.new-ending.result c.in-Ok.outcomes h (rw c.len.ensures at c.new-ending.ensures) c.in-Ok.ensures.writes c.in-Ok.ensures.after in
    let ending = (rw c.deref.ensures.value at c.in-Ok-take_all.ensures.ok) from (ops_of given) begun in
    let clients = c.in-Ok-take_all.ensures.clients ∙ ap (λ e. e.clients) c.new-ending.ensures in
    subst (λ (k : ℕ). IsStopAtEnd k (ops_of given) (returned_in all (unknown_of given)) u.fault) clients
    (subst (λ (ps : List UnknownPut). IsStopAtEnd c.take_all.new.self.clients (ops_of given) (returned_in all ps) u.fault) h.unknown (stop from (ops_of given) _ ending.own)))
    c.end.ensures.stop

pub returns-clause-err : goal.returns-clause-err
returns-clause-err g c = λ from given h.
    let i = c.args.self in
    let begun = begins g.W.Write.contents from given i c.new-ending.result c.in-Ok.outcomes h (rw c.len.ensures at c.new-ending.ensures) c.in-Ok.ensures.writes c.in-Ok.ensures.after in
    rw c.give_up-in-Err.ensures ((rw c.deref.ensures.value at c.in-Err.ensures.err) from (ops_of given) begun)

pub returns-clause-stop : goal.returns-clause-stop
returns-clause-stop g c = λ from given h.
    let i = c.args.self in
    let all = operations_of (ops_of given) in
    let begun = begins g.W.Write.contents from given i c.new-ending.result c.in-Ok.outcomes h (rw c.len.ensures at c.new-ending.ensures) c.in-Ok.ensures.writes c.in-Ok.ensures.after in
    let stop = (rw c.deref.ensures.value at c.in-Err.ensures.stop) from (ops_of given) begun in
    let clients = ap (λ e. e.clients) c.new-ending.ensures in
    rw c.give_up-in-Err.ensures
    (subst (λ (k : ℕ). IsStopAtEnd k (ops_of given) (returned_in all (unknown_of given)) c.in-Err.fault) clients
    (subst (λ (ps : List UnknownPut). IsStopAtEnd c.new-ending.result.clients (ops_of given) (returned_in all ps) c.in-Err.fault) h.unknown stop))
