use Rattle.std.proofs.Common.{[], length, slice_index_or, arith, ap}
use Rattle.cops_types.specs.OpRefs.{seen}
use Rattle.cops_types.proofs.Sessioning.{left_next, left_none}
use Rattle.cops_types.proofs.session_ref.OperationsIterator.next.Goals as goal

pub returns-in-Some-clause-steps : goal.returns-in-Some-clause-steps
returns-in-Some-clause-steps c =
    let own = c.args.self.now in
    left_next (slice_index_or own.history.now.sessions own.client []) own.next (seen c.in-Some.op) c.in-Some.ensures.operation

pub returns-in-Some-clause-goes : goal.returns-in-Some-clause-goes
returns-in-Some-clause-goes c =
    let own = c.args.self.now in
    let session = slice_index_or own.history.now.sessions own.client [] in
    let next = left_next session own.next (seen c.in-Some.op) c.in-Some.ensures.operation in
    record { on = λ ends. (tt, tt, omega (arith, ap length next)); keeps = tt; rests = λ ends. tt }

pub returns-in-None-clause-steps : goal.returns-in-None-clause-steps
returns-in-None-clause-steps c =
    let own = c.args.self.now in
    let none = left_none (slice_index_or own.history.now.sessions own.client []) own.next c.in-None.ensures.operation in
    (none, none)
