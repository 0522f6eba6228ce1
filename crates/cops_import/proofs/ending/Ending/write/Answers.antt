use Rattle.std.proofs.Common.{◌<◌, ap, refl, rules}
use Rattle.cops_types.specs.Operations.{operation_of}
use Rattle.cops_trace.specs.Counts.{ACounts, HasTurn}
use Rattle.cops_import.specs.Underway.{trace_to}
use Rattle.cops_import.proofs.Own.{no_operation, own_more}
use Rattle.cops_import.proofs.Records.{cut_so_far, left_refused, written_more}
use Rattle.cops_import.proofs.ending.Ending.write.Goals as goal

pub returns-then-self-from-clause-err : goal.returns-then-self-from-clause-err
returns-then-self-from-clause-err g c = λ from ops returned is h. record { cut = cut_so_far g.W.Write.contents from _ _ h.wrote; heard = h.wrote.heard }

pub returns-then-self-from-2-clause-err : goal.returns-then-self-from-2-clause-err
returns-then-self-from-2-clause-err g c = λ from ops returned is h. record { cut = cut_so_far g.W.Write.contents from _ _ h.wrote; heard = h.wrote.heard }

pub returns-then-not-has_turn-clause-err : goal.returns-then-not-has_turn-clause-err
returns-then-not-has_turn-clause-err g c = λ from ops returned is h. record { cut = cut_so_far g.W.Write.contents from _ _ h.wrote; heard = h.wrote.heard }

pub returns-then-not-has_turn-clause-stop : goal.returns-then-not-has_turn-clause-stop
returns-then-not-has_turn-clause-stop g c = λ from ops returned h.
    let e = c.args.self.now in
    let full : HasTurn e.writer.counts e.client → ⊥ = λ turn. let yes = c.has_turn.ensures.1 turn in let no = c.if-not-has_turn.true in search rules in
    let inside : e.client < e.clients = search rules in
    let few : e.client < 65535 = search rules in
    (refl, no_operation g.W.Write.contents from ops returned e e.client h refl inside few full)

pub returns-in-Ok-clause-ok : goal.returns-in-Ok-clause-ok
returns-in-Ok-clause-ok g c = λ from ops returned next is legal h.
    let e = c.args.self.now in
    let turn : HasTurn e.writer.counts e.client = search rules in
    let inside : e.client < e.clients = search rules in
    let wrote = written_more g.W.Write.contents from (trace_to e.writer.counts.format e.clients ops returned) e.writer c.op.new.self e.client (operation_of c.args.op.now) h.wrote turn legal
    c.in-Ok.ensures.ok c.in-Ok.ensures.counts c.in-Ok.ensures.written c.in-Ok.ensures.heard in
    own_more g.W.Write.contents from ops returned next e _ e.client (operation_of c.args.op.now) h is refl inside refl refl (ap (λ (n : ACounts). n.format) c.in-Ok.ensures.counts) wrote

pub returns-in-Err-clause-err : goal.returns-in-Err-clause-err
returns-in-Err-clause-err g c = λ from ops returned legal h.
    let e = c.args.self.now in
    let turn : HasTurn e.writer.counts e.client = search rules in
    rw c.from-in-Err.ensures
    (left_refused g.W.Write.contents from (trace_to e.writer.counts.format e.clients ops returned) e.writer c.op.new.self e.client (operation_of c.args.op.now) c.in-Err.fault h.wrote turn legal
    c.in-Err.ensures.err c.in-Err.ensures.failed)
